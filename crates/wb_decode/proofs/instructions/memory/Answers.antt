use Rattle.std.proofs.Common.{◌∙◌, sym, arith}
use Rattle.wb_syntax.specs.Grammar.{Outside, Floating}
use Rattle.wb_decode.specs.Rows.{after, loaded, stored}
use Rattle.wb_decode.proofs.Rows.{loads, stores, float_access, reads_as, refused_as}
use Rattle.wb_decode.proofs.instructions.memory.Goals as goal

pub returns-then-is_load : goal.returns-then-is_load
returns-then-is_load c = reads_as c.loaded.result (λ x. (x.0, x.1.now)) (after c.args.opcode) (loaded c.args.opcode) c.args.bytes.now (loads c.args.opcode (omega arith) (sym c.is_load.ensures ∙ c.if-is_load.true)) c.loaded.ensures

pub returns-then-is_store : goal.returns-then-is_store
returns-then-is_store c = reads_as c.stored.result (λ x. (x.0, x.1.now)) (after c.args.opcode) (stored c.args.opcode) c.args.bytes.now (stores c.args.opcode (omega arith) (sym c.is_store.ensures ∙ c.if-is_store.true)) c.stored.ensures

pub returns : goal.returns
returns c = refused_as (Outside Floating) (after c.args.opcode) c.args.bytes.now (float_access c.args.opcode (omega arith) (omega arith) (sym c.is_load.ensures ∙ c.if-is_load.false) (sym c.is_store.ensures ∙ c.if-is_store.false))
