-- Where the construct at an index leads.
use Rattle.std.proofs.Common.{◌≡◌, ℕ, zero, suc, List, [], ◌∷◌, drop, refl, ap, subst, ◌∙◌}
use Rattle.std.specs.Prelude.{Option, Some, None, slice_get}
use Rattle.wb_syntax.specs.declared.syntax.Instr.{Instr}
use Rattle.wb_syntax.specs.declared.syntax.Func.{Func}
use Rattle.wb_syntax.specs.declared.syntax.Module.{Module}
use Rattle.wb_code.specs.declared.leading.Jump.{Jump}
use Rattle.wb_code.specs.Jumps.{Leads, LeadAlong}
use Rattle.wb_control.specs.Steps.{jump_of}
use Rattle.wb_control.specs.Stands.{AllNested, AllLead}

none_some : {A : Type 0} (x : A) → None ≡ Some x → ⊥
none_some x e = cc

some_same : {A : Type 0} (x y : A) → Some x ≡ Some y → x ≡ y
some_same x y e = cc

-- the jump of an instruction, and where it leads
pub record HasJump (b : List Instr) (at : ℕ) (i : Instr) (o : Option Jump) : Type 0 where
  pub jump : Jump
  pub is : o ≡ Some jump
  pub leads : Leads b (drop (suc at) b) i jump

record LeadsAt (body is : List Instr) (n : ℕ) (i : Instr) (js : List Jump) : Type 0 where
  pub jump : Jump
  pub there : slice_get js n ≡ Some jump
  pub leads : Leads body (drop (suc n) is) i jump

lead_at : (body is : List Instr) (js : List Jump) (n : ℕ) (i : Instr) → LeadAlong body is js → slice_get is n ≡ Some i → LeadsAt body is n i js
lead_at body [] js n i h e = absurd (none_some i e)
lead_at body (x ∷ is) [] n i h e = absurd h
lead_at body (x ∷ is) (j ∷ js) zero i h e = record { jump = j; there = refl; leads = subst (λ y. Leads body is y j) (some_same x i e) h.0 }
lead_at body (x ∷ is) (j ∷ js) (suc n) i h e =
    let r = lead_at body is js n i h.1 e in
    record { jump = r.jump; there = r.there; leads = r.leads }

pub has_jump : (m : Module) (js : List (List Jump)) (x : ℕ) (f : Func) (at : ℕ) (i : Instr) → AllNested m → AllLead m js → slice_get m.funcs x ≡ Some f → slice_get f.body at ≡ Some i → HasJump f.body at i (jump_of js x at)
has_jump m js x f at i nests leads named there =
    let c = nests x f named in
    let l = leads x f named in
    let r = lead_at f.body f.body l.0 at i (l.2 c.0 c.1) there in
    let J : Option (List Jump) → Option Jump = λ o. elim o [ None ↦ None | Some j ↦ slice_get j at ] in
    record { jump = r.jump; is = ap J l.1 ∙ r.there; leads = r.leads }
