use Rattle.std.proofs.Common.{◌<◌, length, rules}
use Rattle.wb_encode.proofs.Appending.{after_byte, all_of, pushed, turned}
use Rattle.wb_encode.proofs.Spelled.{section_is}
use Rattle.wb_encode.proofs.Parted.{section_parts, sized_shortest}
use Rattle.wb_encode.proofs.sections.push_section.Goals as goal

pub returns : goal.returns
returns g c =
    let some : 0 < length c.args.parts.now = search rules in
    let vector = all_of c.new-contents.ensures.items c.in_ok-push_vec.ensures in
    after_byte (pushed c.in_ok-push.ensures.items) (turned c.in_ok-push_sized.ensures (λ bytes s. sized_shortest c.push_vec.new.out.items bytes vector s))
    (λ rest s. section_is g.T.Spell.spells c.args.id c.args.parts.now rest some s) (λ bytes s. section_parts g.T.Spell.spells c.args.id c.args.parts.now bytes some s)
