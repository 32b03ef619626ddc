use Rattle.wb_syntax.proofs.Decoding.{decoded_exactly}
use Rattle.wb_encode.proofs.Writable.{encoded_is_encodable_lem}
use Rattle.wb_rewrite.proofs.rewriting.rewritten.Goals as goal

pub encode-requires : goal.encode-requires
encode-requires c =
    let read = (decoded_exactly c.in-Ok.module c.args.bytes.now).1 c.in-Ok.ensures in
    let asked = encoded_is_encodable_lem c.in-Ok.module c.args.bytes.now read in
    record {
      bodies = asked.bodies;
      initial_values = asked.initial_values;
      instructions = asked.instructions;
      locals = asked.locals;
    }

pub returns-in-Ok-encode-clause-same : goal.returns-in-Ok-encode-clause-same
returns-in-Ok-encode-clause-same c = record {
  the_module = c.in-Ok.module;
  read = (decoded_exactly c.in-Ok.module c.args.bytes.now).1 c.in-Ok.ensures;
  written = c.in-Ok-encode.ensures.spells;
}
