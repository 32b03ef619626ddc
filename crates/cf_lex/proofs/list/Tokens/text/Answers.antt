use Rattle.std.proofs.Common.{◌≡◌, ◌∙◌, ap, arith, length, subst, sym}
use Rattle.std.specs.List.{slice_range}
use Rattle.cf_lex.specs.Lexed.{IsLexed, Spells}
use Rattle.cf_lex.proofs.Spelled.{spells}
use Rattle.cf_lex.proofs.Used.{within}
use Rattle.cf_lex.proofs.list.Tokens.text.Goals as goal

pub slice_bounds-result-count : goal.slice_bounds-result-count
slice_bounds-result-count c = (within c.args.self.now (subst IsLexed c.self.view_is c.self.invariant.1) c.args.t c.requires).0

pub slice_bounds-result-start : goal.slice_bounds-result-start
slice_bounds-result-start c = (within c.args.self.now (subst IsLexed c.self.view_is c.self.invariant.1) c.args.t c.requires).0

pub slice_bounds-result-end : goal.slice_bounds-result-end
slice_bounds-result-end c =
    let w = (within c.args.self.now (subst IsLexed c.self.view_is c.self.invariant.1) c.args.t c.requires).1 in
    let e : length c.as_bytes.result.now ≡ length c.args.self.now.text = ap length c.as_bytes.ensures.value ∙ ap (λ l. length l.text) c.self.view_is in
    omega (arith, w, e)

pub returns-clause-spells : goal.returns-clause-spells
returns-clause-spells c =
    let s = spells c.args.self.now (subst IsLexed c.self.view_is c.self.invariant.1) c.args.t c.requires in
    let e = c.as_bytes.ensures.value ∙ ap (λ l. l.text) c.self.view_is in
    subst (λ bs. Spells c.args.t.kind (slice_range bs c.args.t.start c.args.t.end)) (sym e) s
