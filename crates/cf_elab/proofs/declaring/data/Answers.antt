use Rattle.std.proofs.Common.{◌≡◌, ◌∙◌, sym, length, string_bytes, rules}
use Rattle.cf_tree.specs.View.{ctors_of, named, names_of}
use Rattle.cf_elab.proofs.Declared.{data_made, names_count}
use Rattle.cf_elab.proofs.declaring.data.Goals as goal

pub returns-clause-read : goal.returns-clause-read
returns-clause-read c =
    let ps = c.args.params.now.items in
    let x = string_bytes c.in_ok-declared.declared in
    let y = string_bytes c.in_ok-clone.field-0 in
    let same : y ≡ x = search rules in
    let count : c.len.result ≡ length ps = search rules in
    data_made c.args.g.now (named c.args.at c.args.name.now) (names_of ps) (ctors_of c.args.ctors.now.items) c.args.holes.now c.push_type.new.self c.constructors.new.g c.settle.new.self c.constructors.new.holes x y c.in_ok-ctors.ctors.items c.in_ok-data_type.data_type c.in_ok-count.count
    c.in_ok-declared.ensures.new c.in_ok-declared.ensures.name (same ∙ c.in_ok-declared.ensures.name) (c.in_ok-data_type.ensures.value ∙ c.types.ensures) (c.in_ok-count.ensures.value ∙ count ∙ sym (names_count ps))
    c.in_ok-push_type.ensures.pushed c.in_ok-ctors.ensures.read c.settle.ensures
