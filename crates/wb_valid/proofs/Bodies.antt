-- The last steps over a body, and what its test decides.
use Rattle.std.proofs.Common.{◌≡◌, ℕ, ◌+◌, ◌<◌, ◌≤◌, arith, refl, sym, ap, ◌∙◌, length, drop, get_or, ◌-◌, ◌⊎◌, inl, inr, eq-eqb, ne_eqb}
use Rattle.std.specs.Prelude.{Bool, true, false, nat_eq, List, [], ◌∷◌, Some, None, Result, Ok, Err, IfOk, MatchBool, ◌↔◌}
use Rattle.std.proofs.lemmas.List.{drop_more, length-drop}
use Rattle.std.proofs.lemmas.Bool.{cases_eq}
use Rattle.wb_syntax.specs.Typing.{Context}
use Rattle.wb_valid.specs.Syntax.{Instr}
use Rattle.wb_valid.specs.Checking.{Frame, step_in, closes}

same_false : (T : Type 0) (x : Bool) → false ≡ x → T ↔ (x ≡ true) → T → ⊥
same_false T x e iff t = let h : x ≡ true = iff.0 t in let never : ⊥ = cc in never

-- an answer that is a test which decides a fact
pub decided : {E : Type 0} (T : Type 0) (x : Bool) (r : Result Bool E) → IfOk r (λ b. b ≡ x) → T ↔ (x ≡ true) → IfOk r (λ b. MatchBool b T (T → ⊥))
decided T x (Ok true) e iff = iff.1 (sym e)
decided T x (Ok false) e iff = same_false T x e iff
decided T x (Err y) e iff = tt

-- nothing follows
no_rest : (base : Context) (ys : List Instr) → nat_eq (length ys) 0 ≡ closes base [] ys
no_rest base [] = refl
no_rest base (y ∷ ys) = ne_eqb (length (y ∷ ys)) 0 (λ e. omega (arith, e))

at_end : (n k : ℕ) → n ≤ k → ((n ≡ k) ⊎ (n ≡ k → ⊥)) → nat_eq n k ≡ nat_eq (k - n) 0
at_end n k l (inl e) = eq-eqb n k e ∙ sym (eq-eqb (k - n) 0 (omega (arith, e)))
at_end n k l (inr d) = ne_eqb n k d ∙ sym (ne_eqb (k - n) 0 (λ e. d (omega (arith, e, l))))

closed : (base : Context) (xs : List Instr) (n : ℕ) → n ≤ length xs → nat_eq n (length xs) ≡ closes base [] (drop n xs)
closed base xs n l = at_end n (length xs) l (cases_eq n (length xs)) ∙ ap (λ k. nat_eq k 0) (sym (length-drop n xs)) ∙ no_rest base (drop n xs)

-- the instruction at an index closes the body
pub closed_at : (base : Context) (f : Frame) (fs : List Frame) (body : List Instr) (at : ℕ) (i : Instr) → at < length body → i ≡ get_or body at i → step_in base f fs i ≡ Some [] → nat_eq (at + 1) (length body) ≡ closes base (f ∷ fs) (drop at body)
closed_at base f fs body at i l e s =
    closed base body (at + 1) (omega arith)
    ∙ sym (ap (closes base (f ∷ fs)) (drop_more body at i l ∙ ap (λ j. j ∷ drop (at + 1) body) (sym e))
    ∙ ap (λ o. elim o [ None ↦ false | Some gs ↦ closes base gs (drop (at + 1) body) ]) s)
