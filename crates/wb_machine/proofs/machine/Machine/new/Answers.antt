use Rattle.std.proofs.Common.{◌≡◌, ◌≤◌, length, arith, refl, sym, ap, subst, ◌∙◌}
use Rattle.wb_syntax.specs.declared.syntax.Module.{Module}
use Rattle.wb_syntax.specs.Typing.{Memories}
use Rattle.wb_syntax.specs.Execute.{TheStore}
use Rattle.wb_syntax.specs.Runs.{memory_at_first, fixed_room}
use Rattle.wb_plain.specs.Follows.{pages_of}
use Rattle.wb_control.specs.Stands.{AllLead}
use Rattle.wb_machine.specs.Inside.{HasFewParameters}
use Rattle.wb_machine.proofs.First.{pages_at_first}
use Rattle.wb_machine.proofs.machine.Machine.new.Goals as goal

pub first_pages-pages-requires : goal.first_pages-pages-requires
first_pages-pages-requires c = subst (λ (m : Module). length m.memories ≤ 1) (sym c.module-module.ensures.same) (c.module-module.ensures.valid Memories)

pub invariant_of-result : goal.invariant_of-result
invariant_of-result c =
    let m = c.args.m in
    let r = c.in_ok-run.run' in
    let same = c.module-module.ensures.same in
    let memory : r.state.memory ≡ memory_at_first m.memories = ap (λ (s : TheStore). s.memory) c.in_ok-run.ensures.store ∙ ap (λ (x : Module). memory_at_first x.memories) same in
    let size : pages_of r.state.memory ≡ fixed_room m = ap pages_of memory ∙ pages_at_first m.memories (c.module-module.ensures.valid Memories) in (
      ∣ subst (λ (x : Module). AllLead x c.in_ok-jumps.jumps) same c.in_ok-jumps.ensures ∣₁,
      record {
        roomy = c.in_ok-run.ensures.roomy;
        room = c.in_ok-run.ensures.words;
        first = omega (arith, size);
        most = omega (arith, size);
      },
      ∣ subst HasFewParameters same (c.if-not-has_few_parameters.ensures refl) ∣₁,
    )
