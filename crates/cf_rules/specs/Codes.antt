-- How programs are stored and told apart.
use Rattle.std.specs.Prelude.{ℕ, List, ◌≡◌, ◌⊎◌, refl}
use Rattle.std.specs.Coded.{Coded, code_by, coded×, coded⊎, coded_ℕ, coded_list}
use mathlib.Core.Logic.{inl, inr}
use Rattle.cf_term.specs.Core.{Tm}
use Rattle.cf_term.specs.Codes.{tm_code}
use Rattle.cf_rules.specs.Programs.{Constructor, Data, Declaration, DataC, MetaC, ObjectC}

abbrev pub name_code : Coded (List ℕ)
name_code = coded_list coded_ℕ

abbrev pub constructor_code : Coded Constructor
constructor_code = code_by (List ℕ × List Tm) (coded× name_code (coded_list tm_code)) (λ c. (c.name, c.fields)) (λ p. record { name = p.0; fields = p.1 }) (λ _. refl)

abbrev pub data_code : Coded Data
data_code =
    code_by (List ℕ × (ℕ × List Constructor)) (coded× name_code (coded× coded_ℕ (coded_list constructor_code))) (λ d. (d.name, (d.params, d.ctors))) (λ p. record { name = p.0; params = p.1.0; ctors = p.1.1 })
    (λ _. refl)

abbrev pub Named : Type 0
Named = List ℕ × (Tm × Tm)

abbrev pub cases : Declaration → Data ⊎ (Named ⊎ Named)
cases (DataC d) = inl d
cases (MetaC name ty body) = inr (inl (name, (ty, body)))
cases (ObjectC name ty body) = inr (inr (name, (ty, body)))

abbrev pub declaration_at : Data ⊎ (Named ⊎ Named) → Declaration
declaration_at (inl d) = DataC d
declaration_at (inr (inl n)) = MetaC n.0 n.1.0 n.1.1
declaration_at (inr (inr n)) = ObjectC n.0 n.1.0 n.1.1

pub declaration_back : (d : Declaration) → declaration_at (cases d) ≡ d
declaration_back (DataC d) = refl
declaration_back (MetaC name ty body) = refl
declaration_back (ObjectC name ty body) = refl

abbrev pub named_code : Coded Named
named_code = coded× name_code (coded× tm_code tm_code)

abbrev pub declaration_code : Coded Declaration
declaration_code = code_by (Data ⊎ (Named ⊎ Named)) (coded⊎ data_code (coded⊎ named_code named_code)) cases declaration_at declaration_back

abbrev pub declarations_code : Coded (List Declaration)
declarations_code = coded_list declaration_code
