-- At most one part is the first that is not valid.
use Rattle.std.proofs.Common.{◌≡◌, ◌<◌, arith, refl, sym, ap, ◌⊎◌, inl, inr}
use Rattle.std.proofs.lemmas.Bool.{cases_order}
use Rattle.wb_syntax.specs.Typing.{Part, FuncTypeOf, Memories, MemoryLimits, GlobalInit, ExportOf, Body, kind, number, IsFirstInvalid}
use Rattle.wb_valid.specs.Syntax.{Module}
use Rattle.wb_valid.specs.Laws.{FirstIsOne, ValidHasNone}

same_part : (p q : Part) → kind p ≡ kind q → number p ≡ number q → p ≡ q
same_part (FuncTypeOf f) (FuncTypeOf g) k n = ap FuncTypeOf n
same_part Memories Memories k n = refl
same_part MemoryLimits MemoryLimits k n = refl
same_part (GlobalInit f) (GlobalInit g) k n = ap GlobalInit n
same_part (ExportOf f) (ExportOf g) k n = ap ExportOf n
same_part (Body f) (Body g) k n = ap Body n
same_part p q k n = absurd (omega (arith, k))

by_number : (m : Module) (p q : Part) → IsFirstInvalid m p → IsFirstInvalid m q → kind p ≡ kind q → ((number p ≡ number q) ⊎ ((number p < number q) ⊎ (number q < number p))) → p ≡ q
by_number m p q f g k (inl n) = same_part p q k n
by_number m p q f g k (inr (inl l)) = absurd (f.0 (g.1 p (inr (k, l))))
by_number m p q f g k (inr (inr l)) = absurd (g.0 (f.1 q (inr (sym k, l))))

by_kind : (m : Module) (p q : Part) → IsFirstInvalid m p → IsFirstInvalid m q → ((kind p ≡ kind q) ⊎ ((kind p < kind q) ⊎ (kind q < kind p))) → p ≡ q
by_kind m p q f g (inl k) = by_number m p q f g k (cases_order (number p) (number q))
by_kind m p q f g (inr (inl l)) = absurd (f.0 (g.1 p (inl l)))
by_kind m p q f g (inr (inr l)) = absurd (g.0 (f.1 q (inl l)))

pub first_is_one : FirstIsOne
first_is_one m p q f g = by_kind m p q f g (cases_order (kind p) (kind q))

pub valid_has_none : ValidHasNone
valid_has_none m p v f = f.0 (v p)
