use Rattle.std.proofs.Common.{ap, ◌∙◌, ◌++◌, ◌∷◌, []}
use Rattle.cf_parse.proofs.Declaring.{plain_put}
use Rattle.cf_parse.proofs.Only.{decl_only}
use Rattle.cf_parse.specs.Values.{sem}
use Rattle.cf_parse.proofs.declarations.plain_program.Goals as goal

pub returns-in_ok-push-2 : goal.returns-in_ok-push-2
returns-in_ok-push-2 c =
    let s = c.args.source.now in
    plain_put c.args.place c.in-Decl.first.value c.in_ok-decls.decls.items _ c.reverse.new.self.items c.requires (c.pop.ensures s _) (c.pop-in-Decl.ensures s _) (ap (sem s) c.in-Decl.is) (c.in_ok-decls.ensures s) (c.in_ok-push.ensures.items ∙ ap (λ d. c.in_ok-decls.decls.items ++ d ∷ []) c.into_inner.ensures) c.reverse.ensures.items (c.in_ok-push-2.ensures s)

pub returns-in_default : goal.returns-in_default
returns-in_default c =
    let s = c.args.source.now in
    let o = decl_only s c.pop.result (c.pop.ensures s _ _ c.requires).1.0 in
    absurd (c.in_default.not-Decl o.0 o.1)
