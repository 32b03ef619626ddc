-- What is known of the inside of a machine, and the end of a run, which is answered in one way at most.
use Rattle.std.proofs.Common.{◌≡◌, ℕ, ◌<◌, ◌^◌, List, arith, sym, ap, subst, ◌∙◌}
use Rattle.std.specs.Prelude.{Option, Some, IfSome, ℤ}
use Rattle.std.proofs.Props.{props}
use Rattle.std.proofs.Math.Logic.{∥∥₁_elim}
use Rattle.wb_syntax.specs.declared.syntax.Module.{Module}
use Rattle.wb_syntax.specs.Execute.{TheStore}
use Rattle.wb_syntax.specs.Runs.{RunEnd, Returned, Trapped, StackFull, Stuck, Running, NoMain, fixed_room, main_arity, run_main}
use Rattle.wb_code.specs.declared.leading.Jump.{Jump}
use Rattle.wb_plain.specs.Follows.{store_of, pages_of}
use Rattle.wb_control.specs.declared.run.Run.{Run}
use Rattle.wb_control.specs.Stands.{AllNested, AllLead}
use Rattle.wb_machine.specs.Ends.{EndsAs}
use Rattle.wb_machine.specs.Inside.{IsFor, HasFewParameters}
use Rattle.wb_machine.specs.declared.ends.MachineEnd.{MachineEnd}

ends_prop : (first : TheStore) (r : RunEnd) (e : MachineEnd) (s : TheStore) → IsProp (EndsAs first r e s)
ends_prop first (Returned z t) e s = hlevel props
ends_prop first (Trapped k t) e s = hlevel props
ends_prop first (StackFull t) e s = hlevel props
ends_prop first (Stuck t) e s = hlevel props
ends_prop first (Running c) e s = hlevel props
ends_prop first NoMain e s = hlevel props

-- memory that is no smaller than at first and has no room for more has its first size
first_size : (m : Module) (words : ℕ) (r : Run) → IsFor m (fixed_room m) words r → pages_of r.state.memory ≡ fixed_room m
first_size m words r f = let l = f.first in let k = f.most in omega (arith, l, k)

-- the run of a machine, by its module and its jumps as they are read
pub ends_at : (m n : Module) (js ks : List (List Jump)) (r : Run) (words : ℕ) (args : List ℤ) (limit : ℕ) (e : MachineEnd) (left : TheStore) → n ≡ m → ks ≡ js
    → IsFor m (fixed_room m) words r → AllNested m → ∥ AllLead m js ∥₁
    → (AllNested n → AllLead n ks → EndsAs (store_of r.state) (run_main n (pages_of r.state.memory) (store_of r.state) args r.state.operands.room limit) e left)
    → EndsAs (store_of r.state) (run_main m (fixed_room m) (store_of r.state) args words limit) e left
ends_at m n js ks r words args limit e left same alike f nests leads h =
    let s = store_of r.state in
    ∥∥₁_elim leads (ends_prop s (run_main m (fixed_room m) s args words limit) e left) (λ l.
    let q = h (subst AllNested (sym same) nests) (subst (λ x. AllLead x ks) (sym same) (subst (AllLead m) (sym alike) l)) in
    let a = subst (λ (x : Module). EndsAs s (run_main x (pages_of r.state.memory) s args r.state.operands.room limit) e left) same q in
    let b = subst (λ (p : ℕ). EndsAs s (run_main m p s args r.state.operands.room limit) e left) (first_size m words r f) a in
    subst (λ (w : ℕ). EndsAs s (run_main m (fixed_room m) s args w limit) e left) f.room b)

pub few_is : (m n : Module) (k : ℕ) → n ≡ m → Some k ≡ main_arity n → ∥ HasFewParameters m ∥₁ → k < 2 ^ 32
few_is m n k same e h = ∥∥₁_elim h (hlevel props) (λ f. subst (λ (o : Option ℕ). IfSome o (λ x. x < 2 ^ 32)) (sym (e ∙ ap main_arity same)) f)
