-- The names of a program by their numbers: those declared so far stand in the tables of the whole program.
use Rattle.std.proofs.Common.{◌≡◌, refl, sym, ap, ◌∙◌, subst, arith, inl, inr, append_assoc, length-append, ℕ, zero, suc, ◌+◌, ◌-◌, ◌<◌, List, [], ◌∷◌, ◌++◌, length, Some, None}
use Rattle.std.specs.Prelude.{◌⊎◌, slice_get, codes}
use Rattle.unicode_ident.proofs.Computing.{unicode_ident}
use Rattle.cf_lex.specs.Lexed.{AreChars}
use Rattle.cf_lex.specs.Tokens.{spelled}
use Rattle.cf_lex.specs.declared.piece.Lexeme.TheVariants as lexeme
use Rattle.cf_lex.specs.declared.piece.Piece.TheVariants as read
use Rattle.cf_rules.specs.Programs.{Constructor, Data, Declaration, DataC, MetaC, ObjectC}
use Rattle.cf_elab.specs.Scope.{Globals, settled, start, with_own, with_type, with_variable}
use Rattle.cf_elab.specs.declared.numbers.CtorNumber.{CtorNumber}
use Rattle.cf_core_text.specs.Names.{Names, ctor_in, ctor_name, data_types, flag, global_name, global_names, names_of, type_name}
use Rattle.cf_printed.specs.Scoped.{CtorsScoped, DeclScoped, IsName, below, below_ctors, next_ctor}
use Rattle.cf_printed.proofs.Printable.{Tells}

-- elements of a list by their numbers
pub get_mid : {A : Type 0} (xs : List A) (y : A) (zs : List A) → slice_get (xs ++ y ∷ zs) (length xs) ≡ Some y
get_mid [] y zs = refl
get_mid (x ∷ xs) y zs = get_mid xs y zs

pub get_some : {A : Type 0} (xs : List A) (n : ℕ) → n < length xs → (x : A) × (slice_get xs n ≡ Some x)
get_some [] n h = absurd (omega (arith, h))
get_some (x ∷ xs) zero h = (x, refl)
get_some (x ∷ xs) (suc n) h = get_some xs n (omega (arith, h))

pub get_either : {A : Type 0} (xs ys : List A) (n : ℕ) (x : A) → slice_get (xs ++ ys) n ≡ Some x → (slice_get xs n ≡ Some x) ⊎ ((j : ℕ) × (n ≡ length xs + j) × (slice_get ys j ≡ Some x))
get_either [] ys n x e = inr (n, omega arith, e)
get_either (y ∷ xs) ys zero x e = inl e
get_either (y ∷ xs) ys (suc n) x e = elim (get_either xs ys n x e) [ inl h ↦ inl h | inr r ↦ inr (r.0, omega (arith, r.1), r.2) ]

pub get_first : {A : Type 0} (y : A) (j : ℕ) (x : A) → slice_get (y ∷ []) j ≡ Some x → (j ≡ 0) × (y ≡ x)
get_first y zero x e = (refl, cc)
get_first y (suc j) x e = absurd (cc)

-- the numbers of constructors from the one with number j on
abbrev pub numbered : (t p j : ℕ) → List Constructor → List (List ℕ × CtorNumber)
numbered t p j [] = []
numbered t p j (c ∷ cs) = (c.name, record { data_type = t; ctor = j; params = p }) ∷ numbered t p (suc j) cs

-- what the constructors of a data type add
pub record Adds (g h : Globals) (es : List (List ℕ × CtorNumber)) : Type 0 where
  pub variables : h.variables ≡ g.variables
  pub types : h.types ≡ g.types
  pub ctors : h.ctors ≡ g.ctors
  pub own : h.own ≡ g.own ++ es

append_nil : {A : Type 0} (xs : List A) → xs ≡ xs ++ []
append_nil [] = refl
append_nil (x ∷ xs) = ap (λ l. x ∷ l) (append_nil xs)

pub adds : (g : Globals) (t p : ℕ) (cs : List Constructor) → Adds g (below_ctors g t p cs) (numbered t p (length g.own) cs)
adds g t p [] = record { variables = refl; types = refl; ctors = refl; own = append_nil g.own }
adds g t p (c ∷ cs) =
    let e : List ℕ × CtorNumber = (c.name, next_ctor g t p) in
    let r = adds (with_own c.name (next_ctor g t p) g) t p cs in
    let n : length (g.own ++ e ∷ []) ≡ suc (length g.own) = length-append g.own (e ∷ []) ∙ omega arith in
    record {
      variables = r.variables;
      types = r.types;
      ctors = r.ctors;
      own = r.own ∙ ap (λ k. (g.own ++ e ∷ []) ++ numbered t p k cs) n ∙ append_assoc g.own (e ∷ []) (numbered t p (suc (length g.own)) cs);
    }

pub numbered_at : (t p j : ℕ) (cs : List Constructor) (i : ℕ) (x : List ℕ) (k : CtorNumber) → slice_get (numbered t p j cs) i ≡ Some (x, k) → (c : Constructor) × (slice_get cs i ≡ Some c) × (c.name ≡ x) × (k.data_type ≡ t) × (k.ctor ≡ j + i) × (k.params ≡ p)
numbered_at t p j [] i x k e = absurd (cc)
numbered_at t p j (c ∷ cs) zero x k e =
    let n : CtorNumber = record { data_type = t; ctor = j; params = p } in
    let a : List ℕ × CtorNumber = (c.name, n) in
    let b : List ℕ × CtorNumber = (x, k) in
    let f : a ≡ b = cc in
    (c, refl, ap (λ q. q.0) f, sym (ap (λ q. q.1.data_type) f), sym (ap (λ q. q.1.ctor) f) ∙ omega arith, sym (ap (λ q. q.1.params) f))
numbered_at t p j (c ∷ cs) (suc i) x k e =
    let r = numbered_at t p (suc j) cs i x k e in
    (r.0, r.1, r.2, r.3, r.4 ∙ omega arith, r.5)

pub ctor_names : (g : Globals) (t p : ℕ) (cs : List Constructor) → CtorsScoped g t p cs → (i : ℕ) (c : Constructor) → slice_get cs i ≡ Some c → IsName c.name
ctor_names g t p [] s i c e = absurd (cc)
ctor_names g t p (d ∷ cs) s zero c e = let f : d ≡ c = cc in subst (λ k. IsName k.name) f s.0.0
ctor_names g t p (d ∷ cs) s (suc i) c e = ctor_names (with_own d.name (next_ctor g t p) g) t p cs s.2 i c e

-- the tables of a program, where these declarations are left
pub record Agrees (N : Names) (g : Globals) (ds : List Declaration) : Type 0 where
  pub front : List Data
  pub types : N.types ≡ front ++ data_types ds
  pub types_count : length front ≡ length g.types
  pub outer : List (List ℕ)
  pub globals : N.globals ≡ outer ++ global_names ds
  pub globals_count : length outer ≡ length g.variables
  pub none_own : g.own ≡ []
  pub type_at : (n : ℕ) (x : List ℕ) → slice_get g.types n ≡ Some x → (type_name N n ≡ x) × IsName x
  pub global_at : (n : ℕ) (x : List ℕ) → slice_get g.variables n ≡ Some x → (global_name N (length g.variables - suc n) ≡ x) × IsName x
  pub ctor_at : (i : ℕ) (x : List ℕ) (k : CtorNumber) → slice_get g.ctors i ≡ Some (x, k) → (ctor_name N k.data_type k.ctor ≡ x) × IsName x

-- the next global, and the next data type
pub next_global : (N : Names) (outer rest : List (List ℕ)) (x : List ℕ) (n : ℕ) → N.globals ≡ outer ++ x ∷ rest → length outer ≡ n → global_name N n ≡ x
next_global N outer rest x n e f = ap (λ o. elim o [ Some y ↦ y | None ↦ [] ]) ((λ i. slice_get (e i) (sym f i)) ∙ get_mid outer x rest)

pub next_type : (N : Names) (front rest : List Data) (d : Data) (n : ℕ) → N.types ≡ front ++ d ∷ rest → length front ≡ n → slice_get N.types n ≡ Some d
next_type N front rest d n e f = (λ i. slice_get (e i) (sym f i)) ∙ get_mid front d rest

with_global : (N : Names) (g : Globals) (ds es : List Declaration) (x : List ℕ) → global_names es ≡ x ∷ global_names ds → data_types es ≡ data_types ds → IsName x → Agrees N g es → Agrees N (with_variable x g) ds
with_global N g ds es x e f m a =
    let glob : N.globals ≡ a.outer ++ x ∷ global_names ds = a.globals ∙ ap (λ l. a.outer ++ l) e in
    record {
      front = a.front;
      types = a.types ∙ ap (λ l. a.front ++ l) f;
      types_count = a.types_count;
      outer = a.outer ++ x ∷ [];
      globals = glob ∙ sym (append_assoc a.outer (x ∷ []) (global_names ds));
      globals_count = length-append a.outer (x ∷ []) ∙ omega (arith, a.globals_count);
      none_own = a.none_own;
      type_at = a.type_at;
      ctor_at = a.ctor_at;
      global_at = at glob;
    }
  where
    at : N.globals ≡ a.outer ++ x ∷ global_names ds → (n : ℕ) (y : List ℕ) → slice_get (x ∷ g.variables) n ≡ Some y → (global_name N (length (x ∷ g.variables) - suc n) ≡ y) × IsName y
    at glob zero y h =
        let i : x ≡ y = cc in
        let k : length (x ∷ g.variables) - 1 ≡ length g.variables = omega arith in
        (ap (global_name N) k ∙ next_global N a.outer (global_names ds) x (length g.variables) glob a.globals_count ∙ i, subst IsName i m)
    at glob (suc n) y h =
        let r = a.global_at n y h in
        let k : length (x ∷ g.variables) - suc (suc n) ≡ length g.variables - suc n = omega arith in
        (ap (global_name N) k ∙ r.0, r.1)

abbrev data_below : Globals → Data → Globals
data_below g d = below_ctors (with_type d.name g) (length g.types) d.params d.ctors

with_data : (N : Names) (g : Globals) (d : Data) (ds : List Declaration) → DeclScoped g (DataC d) → Agrees N g (DataC d ∷ ds) → Agrees N (settled (data_below g d)) ds
with_data N g d ds s a =
    let r = adds (with_type d.name g) (length g.types) d.params d.ctors in
    record {
      front = a.front ++ d ∷ [];
      types = a.types ∙ sym (append_assoc a.front (d ∷ []) (data_types ds));
      types_count = length-append a.front (d ∷ []) ∙ omega (arith, a.types_count, length-append g.types (d.name ∷ [])) ∙ ap length (sym r.types);
      outer = a.outer;
      globals = a.globals;
      globals_count = a.globals_count ∙ ap length (sym r.variables);
      none_own = refl;
      type_at = λ n x h. type_there n x (subst (λ l. slice_get l n ≡ Some x) r.types h);
      global_at = λ n x h. let q = a.global_at n x (subst (λ l. slice_get l n ≡ Some x) r.variables h) in (ap (λ l. global_name N (length l - suc n)) r.variables ∙ q.0, q.1);
      ctor_at = λ i x k h. ctor_there i x k (subst (λ l. slice_get l i ≡ Some (x, k)) (both r.ctors (r.own ∙ ap (λ o. o ++ numbered (length g.types) d.params (length o) d.ctors) a.none_own)) h);
    }
  where
    at : slice_get N.types (length g.types) ≡ Some d
    at = next_type N a.front (data_types ds) d (length g.types) a.types a.types_count

    both : {A : Type 0} {xs xs' ys ys' : List A} → xs ≡ xs' → ys ≡ ys' → xs ++ ys ≡ xs' ++ ys'
    both e f i = e i ++ f i

    type_there : (n : ℕ) (x : List ℕ) → slice_get (g.types ++ d.name ∷ []) n ≡ Some x → (type_name N n ≡ x) × IsName x
    type_there n x h = elim (get_either g.types (d.name ∷ []) n x h) [
      | inl e ↦ a.type_at n x e
      | inr e ↦
          let f = get_first d.name e.0 x e.2 in
          let k : n ≡ length g.types = omega (arith, e.1, f.0) in
          (ap (λ o. elim o [ Some t ↦ t.name | None ↦ [] ]) (ap (slice_get N.types) k ∙ at) ∙ f.1, subst IsName f.1 s.0.0)
    ]

    ctor_there : (i : ℕ) (x : List ℕ) (k : CtorNumber) → slice_get (g.ctors ++ numbered (length g.types) d.params 0 d.ctors) i ≡ Some (x, k) → (ctor_name N k.data_type k.ctor ≡ x) × IsName x
    ctor_there i x k h = elim (get_either g.ctors (numbered (length g.types) d.params 0 d.ctors) i (x, k) h) [
      | inl e ↦ a.ctor_at i x k e
      | inr e ↦
          let c = numbered_at (length g.types) d.params 0 d.ctors e.0 x k e.2 in
          let n : k.ctor ≡ e.0 = c.4 ∙ omega arith in (
            ap (λ o. elim o [ Some t ↦ ctor_in t k.ctor | None ↦ [] ]) (ap (slice_get N.types) c.3 ∙ at)
                ∙ ap (λ o. elim o [ Some j ↦ j.name | None ↦ [] ]) (ap (slice_get d.ctors) n ∙ c.1) ∙ c.2,
            subst IsName c.2 (ctor_names (with_type d.name g) (length g.types) d.params d.ctors s.2 e.0 c.0 c.1),
          )
    ]

pub agrees_below : (N : Names) (g : Globals) (d : Declaration) (ds : List Declaration) → DeclScoped g d → Agrees N g (d ∷ ds) → Agrees N (below g d) ds
agrees_below N g (DataC d) ds s a = with_data N g d ds s a
agrees_below N g (MetaC x b t) ds s a = with_global N g ds (MetaC x b t ∷ ds) x refl refl s.0.0 a
agrees_below N g (ObjectC x b t) ds s a = with_global N g ds (ObjectC x b t ∷ ds) x refl refl s.0.0 a

-- `Flag` and its constructors
flag_name : IsName (codes "Flag")
unfolding unicode_ident lib.Utf8.encode
flag_name = (codes "Flag", (refl, refl), refl, refl)

no_name : IsName (codes "no")
unfolding unicode_ident lib.Utf8.encode
no_name = (codes "no", (refl, refl), refl, refl)

yes_name : IsName (codes "yes")
unfolding unicode_ident lib.Utf8.encode
yes_name = (codes "yes", (refl, refl), refl, refl)

pub agrees_start : (ds : List Declaration) → Agrees (names_of ds) start ds
agrees_start ds = record {
  front = flag ∷ [];
  types = refl;
  types_count = refl;
  outer = [];
  globals = refl;
  globals_count = refl;
  none_own = refl;
  type_at = type_there;
  global_at = λ n x h. absurd (cc);
  ctor_at = ctor_there;
}
  where
    type_there : (n : ℕ) (x : List ℕ) → slice_get (codes "Flag" ∷ []) n ≡ Some x → (type_name (names_of ds) n ≡ x) × IsName x
    type_there zero x h = let e : codes "Flag" ≡ x = cc in (e, subst IsName e flag_name)
    type_there (suc n) x h = absurd (cc)

    ctor_there : (i : ℕ) (x : List ℕ) (k : CtorNumber) → slice_get start.ctors i ≡ Some (x, k) → (ctor_name (names_of ds) k.data_type k.ctor ≡ x) × IsName x
    ctor_there zero x k h =
        let n : CtorNumber = record { data_type = 0; ctor = 0; params = 0 } in
        let a : List ℕ × CtorNumber = (codes "no", n) in
        let b : List ℕ × CtorNumber = (x, k) in
        let e : a ≡ b = cc in
        subst (λ q. (ctor_name (names_of ds) q.1.data_type q.1.ctor ≡ q.0) × IsName q.0) e (refl, no_name)
    ctor_there (suc zero) x k h =
        let n : CtorNumber = record { data_type = 0; ctor = 1; params = 0 } in
        let a : List ℕ × CtorNumber = (codes "yes", n) in
        let b : List ℕ × CtorNumber = (x, k) in
        let e : a ≡ b = cc in
        subst (λ q. (ctor_name (names_of ds) q.1.data_type q.1.ctor ≡ q.0) × IsName q.0) e (refl, yes_name)
    ctor_there (suc (suc i)) x k h = absurd (cc)

-- a text that is a name's
pub named : (x y : List ℕ) → y ≡ x → IsName x → (cs : List ℕ) × AreChars y cs × (spelled cs ≡ Some (read.Token lexeme.Name))
named x y e m = subst (λ z. (cs : List ℕ) × AreChars z cs × (spelled cs ≡ Some (read.Token lexeme.Name))) (sym e) (m.0, m.1, m.2)

pub tells : (N : Names) (g : Globals) (ds : List Declaration) → Agrees N g ds → Tells N g
tells N g ds a = record {
  globals = λ k h.
      let n : ℕ = length g.variables - suc k in
      let r = get_some g.variables n (omega arith) in
      let q = a.global_at n r.0 r.1 in
      let e : length g.variables - suc n ≡ k = omega arith in
      named r.0 (global_name N k) (ap (global_name N) (sym e) ∙ q.0) q.1;
  types = λ n h. let r = get_some g.types n h in let q = a.type_at n r.0 r.1 in named r.0 (type_name N n) q.0 q.1;
  ctors = λ n c k.
      let q = a.ctor_at k.0 k.1 k.2 k.3 in
      named k.1 (ctor_name N n c) ((λ i. ctor_name N (sym k.4 i) (sym k.5 i)) ∙ q.0) q.1;
}
