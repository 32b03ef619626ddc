-- Programs that keep the conditions of the laws.
use Rattle.std.proofs.Common.{refl, arith, List, [], ◌∷◌}
use Rattle.std.specs.Prelude.{codes, pos}
use Rattle.unicode_ident.proofs.Computing.{unicode_ident}
use Rattle.cf_term.specs.Forms.{Case, Con, IntTy, LetV, Lit, V}
use Rattle.cf_term.specs.Core.{cons, nil, var}
use Rattle.cf_rules.specs.Programs.{Declaration, DataC, ObjectC}
use Rattle.cf_elab.specs.Scope.{start}
use Rattle.cf_printed.specs.Scoped.{AllScoped}

-- data Box (_0 : ValTy) := Full (_0);
-- main : V Int := let _0 : Int := 7; case con Full[Int](_0) : V Int of { Full _1 . _1 };
example : List Declaration
example =
    DataC (record { name = codes "Box"; params = 1; ctors = record { name = codes "Full"; fields = var 0 ∷ [] } ∷ [] })
    ∷ ObjectC (codes "main") (V IntTy)
    (LetV IntTy (Lit (pos 7)) (Case (record { type = 1; ctor = 0; names = 1 } ∷ []) (Con 1 0 1 (cons IntTy (cons (var 0) nil))) (V IntTy) (cons (var 0) nil)))
    ∷ []

example_scoped : AllScoped start example
unfolding example unicode_ident lib.Utf8.encode
example_scoped = (
  (((codes "Box", (refl, refl), refl, refl), refl), omega arith, (((codes "Full", (refl, refl), refl, refl), refl), ((omega arith, omega arith), tt), tt)),
  (
    (
      ((codes "main", (refl, refl), refl, refl), refl),
      (omega arith, tt, tt, tt, ((omega arith, tt, tt, tt, tt), tt)),
      (omega arith, tt, tt, tt, ((omega arith, tt, tt, tt, tt), ((omega arith, refl, tt, tt, tt), ((omega arith, ((2, codes "Full", record { data_type = 1; ctor = 0; params = 1 }, refl, refl, refl), tt), tt, tt, ((omega arith, (2, codes "Full", record { data_type = 1; ctor = 0; params = 1 }, refl, refl, refl), tt, tt, ((omega arith, tt, tt, tt, tt), ((omega arith, omega arith), tt))), ((omega arith, tt, tt, tt, ((omega arith, tt, tt, tt, tt), tt)), ((omega arith, omega arith), tt)))), tt)))),
    ),
    tt,
  ),
)
