use Rattle.std.proofs.Common.{sym, refl}
use Rattle.cf_parse.proofs.Taken.{one, made, natlit_at}
use Rattle.cf_parse.specs.Evaluation.{reduced}
use Rattle.cf_syntax.specs.Source.{from}
use Rattle.cf_grammar.specs.declared.productions.Production.TheVariants as by
use Rattle.cf_parse.specs.Kinds as kind
use Rattle.cf_parse.proofs.atoms.numeral.Goals as goal

pub returns : goal.returns
returns c =
    let s = c.args.source.now in
    let o = one c.requires (c.take_token-at.ensures s kind.NatLit tt) in
    made (reduced by.Numeral c.args.place) (c.in_ok-put_form.ensures s) (sym (natlit_at s.prelude (from s c.take_token-at.result) c.args.place c.natlit.ensures o.1)) o.0 refl
