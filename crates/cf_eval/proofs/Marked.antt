-- Marks say nothing to evaluation.
use Rattle.std.proofs.Common.{◌≡◌, ℕ, ◌+◌, ◌≤◌, Bool, true, false, Some, None, refl, ap, sym, arith}
use Rattle.cf_term.specs.Core.{Tm, var, node, Tms, depth, depth_all}
use Rattle.cf_term.specs.Numbered.{places, terms, variable_of}
use Rattle.cf_term.specs.Same.{bare, bare_all}
use Rattle.cf_term.specs.View.{marked}
use Rattle.cf_term.specs.Closed.{AreClosed, IsClosed}
use Rattle.cf_value.specs.Heads.{head_of}
use Rattle.cf_value.specs.declared.shapes.Shape.{Shape}
use Rattle.cf_value.specs.declared.shapes.Shape.TheVariants as shape

pub is_variable : (m : Bool) (t : Tm) (i : ℕ) → Some i ≡ variable_of t → marked m t ≡ var i
is_variable m (var x) i e = let h : i ≡ x = cc in ap var (sym h)
is_variable m (node h ts) i e = cc

pub bare_marked : (m : Bool) (t : Tm) → bare (marked m t) ≡ bare t
bare_marked m (var i) = refl
bare_marked false (node h ts) = refl
bare_marked true (node h ts) = refl

pub closed_marked : (m : Bool) (n : ℕ) (t : Tm) → IsClosed n (marked m t) → IsClosed n t
closed_marked m n (var i) h = h
closed_marked false n (node h ts) c = c
closed_marked true n (node h ts) c = let z : n + 0 ≡ n = omega arith in rw z at c.0

pub parts_closed : (n : ℕ) (t : Tm) → None ≡ variable_of t → IsClosed n t → AreClosed n (places t) (terms t)
parts_closed n (var i) e h = cc
parts_closed n (node h ts) e c = c

pub depth_marked : (m : Bool) (t : Tm) → depth t ≤ depth (marked m t)
depth_marked m (var i) = omega arith
depth_marked false (node h ts) = omega arith
depth_marked true (node h ts) = omega arith

pub depth_terms : (t : Tm) → depth_all (terms t) + 1 ≤ depth t
depth_terms (var x) = omega arith
depth_terms (node h ts) = omega arith

-- a form of the language is no mark
pub bare_form : (s : Shape) (ts : Tms) → bare (node (head_of s) ts) ≡ node (head_of s) (bare_all ts)
bare_form shape.MetaTy ts = refl
bare_form _ ts = refl
