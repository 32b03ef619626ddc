-- Printed programs, computed.
use Rattle.std.specs.Prelude.{false, List, [], ◌∷◌, codes, pos, negsuc, ◌≡◌, refl}
use Rattle.std.specs.Fmt.{digits}
use Rattle.cf_term.specs.Core.{Tm, var, nil, cons}
use Rattle.cf_term.specs.Forms.{Pi, Lam, App, NatTy, Zero, Suc, NatRec, Lift, Quote, V, C, IntTy, Data, Arr, Lit, Prim, OLam, Con, Case, Splice, Hole, Mark, LetV}
use Rattle.cf_term.specs.declared.operations.Op.TheVariants as op
use Rattle.cf_rules.specs.Programs.{Declaration, DataC, MetaC, ObjectC}
use Rattle.cf_core_text.specs.Names.{names_of}
use Rattle.cf_core_text.specs.Text.{term_text}
use Rattle.cf_core_text.specs.Lines.{core_text}

abbrev int : Tm
int = V IntTy

abbrev power : Tm
power = Lam false NatTy (Lam false (Lift int) (NatRec (Lam false NatTy (Lift int)) (Quote (Lit (pos 1))) (Lam false NatTy (Lam false (Lift int) (Quote (Prim op.Mul (Splice (var 2)) (Splice (var 0)))))) (var 1)))

abbrev five : Tm
five = Suc (Suc (Mark (Suc (Suc (Suc Zero)))))

abbrev power_program : List Declaration
power_program = MetaC (codes "power") (Pi false NatTy (Pi false (Lift int) (Lift int))) power
    ∷ ObjectC (codes "main") (C (Arr IntTy int)) (OLam IntTy (Splice (App false (App false (var 1) five) (Quote (var 0)))))
    ∷ []

printed_power : core_text power_program ≡ codes "explicit;\nmeta power : Pi (_0 : Nat) -> Pi (_1 : ^(V Int)) -> ^(V Int) := \\(_0 : Nat). \\(_1 : ^(V Int)). natrec (\\(_2 : Nat). ^(V Int)) <1> (\\(_2 : Nat). \\(_3 : ^(V Int)). <mul ~_1 ~_3>) _0;\nmain : C (Int => V Int) := fn (_0 : Int). ~(power #5 <_0>);\n"
unfolding digits
printed_power = refl

-- a data type with a parameter, one without constructors, and a case without branches
printed_data : core_text
    (DataC (record { name = codes "Seq"; params = 1; ctors = record { name = codes "Nil"; fields = [] } ∷ record { name = codes "Cons"; fields = var 0 ∷ Data 1 (cons (var 0) nil) ∷ [] } ∷ [] })
    ∷ DataC (record { name = codes "Empty"; params = 0; ctors = [] })
    ∷ ObjectC (codes "main") int (LetV int (Case [] (Con 1 0 1 (cons IntTy nil)) int nil) (Con 1 1 1 (cons IntTy (cons (Lit (negsuc 2)) (cons (var 0) nil)))))
    ∷ [])
    ≡ codes "explicit;\ndata Seq (_0 : ValTy) := Nil () | Cons (_0, Seq[_0]);\ndata Empty := ;\nmain : V Int := let _0 : V Int := case con Nil[Int]() : V Int of { }; con Cons[Int](-3, _0);\n"
unfolding digits
printed_data = refl

-- a hole has parentheses where an atom stands
printed_hole : term_text (names_of []) 1 (App false (Hole 3) (Suc (var 0))) ≡ codes "(?3) (suc _0)"
unfolding digits
printed_hole = refl
