use Rattle.std.proofs.Common.{◌≡◌, ◌∙◌, sym, length, string_bytes, rules}
use Rattle.cf_tree.specs.View.{ctor_of, names_of}
use Rattle.cf_elab.proofs.Declared.{ctor_made, names_count}
use Rattle.cf_elab.proofs.declaring.constructor.Goals as goal

pub returns-clause-read : goal.returns-clause-read
returns-clause-read c =
    let ps = c.args.params.now.items in
    let x = string_bytes c.in_ok-name.name in
    let y = string_bytes c.in_ok-clone.field-0 in
    let same : y ≡ x = search rules in
    let count : c.len.result ≡ length ps = search rules in
    ctor_made c.args.data_type (names_of ps) c.args.g.now (ctor_of c.args.ctor.now) c.args.holes.now c.push_ctor.new.self c.fields_under.new.holes x y c.in_ok-fields.fields.items c.in_ok-number.field-0 c.in_ok-number-2.field-0
    c.in_ok-name.ensures.new c.in_ok-name.ensures.name (same ∙ c.in_ok-name.ensures.name) c.in_ok-fields.ensures.read (c.in_ok-number.ensures.value ∙ c.own.ensures)
    (c.in_ok-number-2.ensures.value ∙ count ∙ sym (names_count ps)) c.in_ok-push_ctor.ensures.pushed
