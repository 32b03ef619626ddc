-- Counts over the parts of a form.
use Rattle.std.proofs.Common.{◌≡◌, ℕ, ◌+◌, Bool, true, false, refl, arith}
use Rattle.cf_term.specs.Core.{Tm, var, node}
use Rattle.cf_term.specs.View.{tm_of, marked}
use Rattle.cf_term.specs.Numbered.{terms}
use Rattle.cf_term.specs.Measures.{weight, nodes, nodes_all, nesting, nesting_all}
use Rattle.cf_term.specs.declared.forms.TermNode.{TermNode}
use Rattle.cf_term.specs.declared.forms.TermNode.TheVariants as form

-- a variable is a form too
abbrev pub weight_of : Tm → ℕ
weight_of (var i) = 1
weight_of (node h ts) = weight h

-- each variant is a form, and no mark
pub weight_one : (n : TermNode) → weight_of (tm_of n) ≡ 1
weight_one (form.Var i) = refl
weight_one n = refl

nodes_form : (m : Bool) (t : Tm) → weight_of t ≡ 1 → nodes (marked m t) ≡ nodes_all (terms t) + 1
nodes_form m (var i) e = omega arith
nodes_form false (node h ts) e = omega (arith, e)
nodes_form true (node h ts) e = omega (arith, e)

nesting_form : (m : Bool) (t : Tm) → weight_of t ≡ 1 → nesting (marked m t) ≡ nesting_all (terms t) + 1
nesting_form m (var i) e = omega arith
nesting_form false (node h ts) e = omega (arith, e)
nesting_form true (node h ts) e = omega (arith, e)

pub nodes_marked : (m : Bool) (n : TermNode) → nodes (marked m (tm_of n)) ≡ nodes_all (terms (tm_of n)) + 1
nodes_marked m n = nodes_form m (tm_of n) (weight_one n)

pub nesting_marked : (m : Bool) (n : TermNode) → nesting (marked m (tm_of n)) ≡ nesting_all (terms (tm_of n)) + 1
nesting_marked m n = nesting_form m (tm_of n) (weight_one n)
