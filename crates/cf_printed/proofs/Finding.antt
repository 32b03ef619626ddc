-- What is declared is found by the names that are printed.
use Rattle.std.proofs.Common.{◌≡◌, sym, ap, ◌∙◌, subst, arith, inl, inr, ℕ, suc, ◌-◌, ◌<◌, true, List, [], ◌∷◌, ◌++◌, length, map, Some, None}
use Rattle.std.specs.Prelude.{slice_get, position}
use Rattle.std.specs.Str.{bytes_eq}
use Rattle.cf_elab.specs.Scope.{Globals, ctor_of, is_named, type_of, with_own, with_type}
use Rattle.cf_elab.specs.declared.numbers.CtorNumber.{CtorNumber}
use Rattle.cf_rules.specs.Programs.{Constructor, Data, Declaration, DataC, MetaC, ObjectC}
use Rattle.cf_syntax.specs.Tokens.{begins_plain}
use Rattle.cf_core_text.specs.Names.{Names, ctor_name, data_types, global_name, type_name}
use Rattle.cf_printed.specs.Scoped.{CtorsScoped, DeclScoped, IsCtor, IsName, below, below_ctors, next_ctor}
use Rattle.cf_printed.proofs.Forms.{Finds}
use Rattle.cf_printed.proofs.Found.{Distinct, apart, distinct_own, distinct_settled, distinct_type, distinct_variable, equal, first_at, first_entry, get_front, global_found}
use Rattle.cf_printed.proofs.Tables.{Agrees, get_either, get_first, get_some, next_type}

-- the names of what is declared
pub record Facts (N : Names) (g : Globals) : Type 0 where
  pub type_at : (n : ℕ) (x : List ℕ) → slice_get g.types n ≡ Some x → (type_name N n ≡ x) × IsName x
  pub global_at : (n : ℕ) (x : List ℕ) → slice_get g.variables n ≡ Some x → (global_name N (length g.variables - suc n) ≡ x) × IsName x
  pub ctor_at : (i : ℕ) (x : List ℕ) (k : CtorNumber) → slice_get g.ctors i ≡ Some (x, k) → (ctor_name N k.data_type k.ctor ≡ x) × IsName x

pub facts : (N : Names) (g : Globals) (ds : List Declaration) → Agrees N g ds → Facts N g
facts N g ds a = record { type_at = a.type_at; global_at = a.global_at; ctor_at = a.ctor_at }

-- inside a data declaration its own type is declared too
pub facts_inside : (N : Names) (g : Globals) (d : Data) (ds : List Declaration) → IsName d.name → Agrees N g (DataC d ∷ ds) → Facts N (with_type d.name g)
facts_inside N g d ds m a = record { type_at = type_there; global_at = a.global_at; ctor_at = a.ctor_at }
  where
    type_there : (n : ℕ) (x : List ℕ) → slice_get (g.types ++ d.name ∷ []) n ≡ Some x → (type_name N n ≡ x) × IsName x
    type_there n x h = elim (get_either g.types (d.name ∷ []) n x h) [
      | inl e ↦ a.type_at n x e
      | inr e ↦
          let f = get_first d.name e.0 x e.2 in
          let k : n ≡ length g.types = omega (arith, e.1, f.0) in
          let at : slice_get N.types (length g.types) ≡ Some d = next_type N a.front (data_types ds) d (length g.types) a.types a.types_count in
          (ap (λ o. elim o [ Some t ↦ t.name | None ↦ [] ]) (ap (slice_get N.types) k ∙ at) ∙ f.1, subst IsName f.1 m)
    ]

pub facts_own : (N : Names) (g : Globals) (x : List ℕ) (k : CtorNumber) → Facts N g → Facts N (with_own x k g)
facts_own N g x k f = record { type_at = f.type_at; global_at = f.global_at; ctor_at = f.ctor_at }

pub finds : (N : Names) (g : Globals) → Facts N g → Distinct g → Finds N g
finds N g f d = record { globals = global_there; types = type_there; ctors = ctor_there }
  where
    global_there : (n : ℕ) → n < length g.variables → (begins_plain (global_name N n) ≡ true) × (position (is_named (global_name N n)) (map Some g.variables) ≡ Some (length g.variables - suc n))
    global_there n h =
        let i : ℕ = length g.variables - suc n in
        let r = get_some g.variables i (omega arith) in
        let q = f.global_at i r.0 r.1 in
        let k : length g.variables - suc i ≡ n = omega arith in
        let e : global_name N n ≡ r.0 = ap (global_name N) (sym k) ∙ q.0 in (
          ap begins_plain e ∙ q.1.3,
          ap (λ x. position (is_named x) (map Some g.variables)) e ∙ global_found r.0 g.variables i r.1 (λ j l h. let same : j ≡ i = d.variables j i r.0 h r.1 in absurd (omega (arith, same, l))),
        )

    type_there : (n : ℕ) → n < length g.types → type_of g (type_name N n) ≡ Some n
    type_there n h =
        let r = get_some g.types n h in
        let q = f.type_at n r.0 r.1 in
        ap (type_of g) q.0 ∙ first_at (bytes_eq r.0) g.types n r.0 r.1 (equal r.0) (λ j z l k. apart r.0 z (λ e. let same : j ≡ n = d.types j n r.0 (k ∙ ap Some (sym e)) r.1 in omega (arith, same, l)))

    ctor_there : (n c : ℕ) → IsCtor g n c → (k : CtorNumber) × (ctor_of g (ctor_name N n c) ≡ Some k) × (k.data_type ≡ n) × (k.ctor ≡ c)
    ctor_there n c i =
        let q = f.ctor_at i.0 i.1 i.2 i.3 in
        let e : ctor_name N n c ≡ i.1 = (λ j. ctor_name N (sym i.4 j) (sym i.5 j)) ∙ q.0 in (
          i.2,
          ap (ctor_of g) e ∙ first_entry (bytes_eq i.1) g.ctors i.0 i.1 i.2 i.3 (equal i.1) (λ j z l k. apart i.1 z.0 (λ m.
              let same : j ≡ i.0 = d.ctors j i.0 i.1 z.1 i.2 (get_front g.ctors g.own j (i.1, z.1) (k ∙ ap (λ y. Some (y, z.1)) (sym m))) (get_front g.ctors g.own i.0 (i.1, i.2) i.3) in
              omega (arith, same, l))),
          i.4,
          i.5,
        )

-- names are told apart below each declaration
ctors_distinct : (g : Globals) (t p : ℕ) (cs : List Constructor) → CtorsScoped g t p cs → Distinct g → Distinct (below_ctors g t p cs)
ctors_distinct g t p [] s d = d
ctors_distinct g t p (c ∷ cs) s d = ctors_distinct (with_own c.name (next_ctor g t p) g) t p cs s.2 (distinct_own g c.name (next_ctor g t p) s.0.1 d)

pub distinct_below : (g : Globals) (d : Declaration) → DeclScoped g d → Distinct g → Distinct (below g d)
distinct_below g (DataC d) s u = distinct_settled (below_ctors (with_type d.name g) (length g.types) d.params d.ctors) (ctors_distinct (with_type d.name g) (length g.types) d.params d.ctors s.2 (distinct_type g d.name s.0.1 u))
distinct_below g (MetaC x a t) s u = distinct_variable g x s.0.1 u
distinct_below g (ObjectC x a t) s u = distinct_variable g x s.0.1 u
