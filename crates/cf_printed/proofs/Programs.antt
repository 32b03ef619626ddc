-- A printed program derives a program whose core it is.
use Rattle.std.proofs.Common.{◌≡◌, refl, sym, ap, ◌∙◌, subst, arith, append_assoc, length-append, ℕ, zero, suc, ◌+◌, true, false, List, [], ◌∷◌, ◌++◌, length, map, Some, None}
use Rattle.std.specs.Prelude.{slice_get}
use Rattle.cf_lex.specs.declared.keywords.Keyword.TheVariants as keyword
use Rattle.cf_lex.specs.declared.marks.Mark.TheVariants as sign
use Rattle.cf_grammar.specs.Grammar.{GNAME, Takes}
use Rattle.cf_grammar.specs.declared.classes.Class.TheVariants as class
use Rattle.cf_grammar.specs.declared.phrases.Phrase.TheVariants as phrase
use Rattle.cf_grammar.specs.declared.phrases.Symbol.TheVariants.{Phrase as a}
use Rattle.cf_tree.specs.Tree.{Binder, CtorTree, DeclTree, DataD, MetaD, ObjectD, Name, Named, Tree}
use Rattle.cf_term.specs.Core.{Tm}
use Rattle.cf_term.specs.Same.{plain}
use Rattle.cf_rules.specs.Programs.{Constructor, Data, Declaration, DataC, MetaC, ObjectC}
use Rattle.cf_syntax.specs.Places.{place}
use Rattle.cf_parse.specs.Meaning.{Sem, ctors_in, decls_in, names_in, terms_in}
use Rattle.cf_parse.specs.Meaning as meant
use Rattle.cf_syntax.specs.Tokens.{begins_plain}
use Rattle.cf_elab.specs.Core.{declare, declare_all, declare_ctors, new_name, resolve}
use Rattle.cf_elab.specs.Resolving.{As, Resolving, Twice, and_then, each, pure}
use Rattle.cf_elab.specs.Scope.{Globals, is_taken, settled, under, with_own, with_type, with_variable}
use Rattle.cf_core_text.specs.Names.{Names, ctor_in, ctor_name, data_types, global_name, global_names, type_name}
use Rattle.cf_core_text.specs.Pieces.{further, listed, printed}
use Rattle.cf_core_text.specs.Pieces as pieces
use Rattle.cf_core_text.specs.Lines.{constructor, constructors, globals_below, line, lines, parameters, types_below}
use Rattle.cf_core_text.specs.declared.pieces.Piece.{Piece}
use Rattle.cf_core_text.specs.declared.pieces.Piece.TheVariants as piece
use Rattle.cf_printed.specs.Plain.{plain_constructor, plain_declaration}
use Rattle.cf_printed.specs.Scoped.{AllScoped, CtorsScoped, DeclScoped, EachScoped, IsScoped, below, below_ctors, next_ctor}
use Rattle.cf_printed.proofs.Branches.{names_from, under_names}
use Rattle.cf_printed.proofs.Declared.{globals_at, types_at}
use Rattle.cf_printed.proofs.Derived.{derive, term_of}
use Rattle.cf_printed.proofs.Deriving.{Gives, g_both, g_last, g_map, g_none, g_phrase, g_token}
use Rattle.cf_printed.proofs.Finding.{Facts, distinct_below, facts, facts_inside, facts_own, finds}
use Rattle.cf_printed.proofs.Found.{Distinct, distinct_own, distinct_type, local_name, locals}
use Rattle.cf_printed.proofs.Placed.{AsTerm, Tree_of}
use Rattle.cf_printed.proofs.Printable.{under_sum}
use Rattle.cf_printed.proofs.Resolving.{Is}
use Rattle.cf_printed.proofs.Spelling.{flat}
use Rattle.cf_printed.proofs.Tables.{Agrees, agrees_below, get_mid, next_global, next_type}

-- the names of parameters
abbrev param_names : (k n : ℕ) → List Name
param_names k zero = []
param_names k (suc n) = local_name k ∷ param_names (suc k) n

names_are : (k n : ℕ) → map Some (param_names k n) ≡ names_from k n
names_are k zero = refl
names_are k (suc n) = ap (λ l. Some (local_name k) ∷ l) (names_are (suc k) n)

params_length : (k n : ℕ) → length (param_names k n) ≡ n
params_length k zero = refl
params_length k (suc n) = ap suc (params_length (suc k) n)

params_locals : (n : ℕ) → under (map Some (param_names 0 n)) [] ≡ locals n
params_locals n =
    let e : pieces.under 0 n ≡ n = under_sum 0 n ∙ omega arith in
    ap (λ l. under l []) (names_are 0 n) ∙ under_names 0 n ∙ ap locals e

-- a name that is new
new_is : (g : Globals) (x : Named) (y : Name) → x.name ≡ y → is_taken g y ≡ false → (n : ℕ) → new_name g x n ≡ As y n
new_is g x y e f n = ap (λ b. elim b as (λ c. Resolving Name) [ true ↦ (λ k. Twice x.at) | false ↦ pure x.name ] n) (ap (is_taken g) e ∙ f) ∙ ap (λ z. As z n) e

-- terms one after the other
each_is : (g : Globals) (ls : List Binder) (t : Tree) (ts : List Tree) (u : Tm) (us : List Tm) → Is g ls t u → ((n : ℕ) → each (resolve g ls) ts n ≡ As us n) → (n : ℕ) → each (resolve g ls) (t ∷ ts) n ≡ As (u ∷ us) n
each_is g ls t ts u us h k n = ap (λ z. and_then z (λ y i. and_then (each (resolve g ls) ts i) (λ ys. pure (y ∷ ys)))) (h n) ∙ ap (λ z. and_then z (λ ys. pure (u ∷ ys))) (k n)

-- a constructor, and those behind it
ctors_are : (t : ℕ) (ps : List Name) (g h : Globals) (c : CtorTree) (cs : List CtorTree) (x : Name) (us : List Tm) (rs : List Constructor) → c.ctor.name ≡ x → is_taken g x ≡ false → ((n : ℕ) → each (resolve g (under (map Some ps) [])) c.fields n ≡ As us n) →
    ((n : ℕ) → declare_ctors t ps (with_own x (record { data_type = t; ctor = length g.own; params = length ps }) g) cs n ≡ As (rs, h) n) → (n : ℕ) → declare_ctors t ps g (c ∷ cs) n ≡ As (record { name = x; fields = us } ∷ rs, h) n
ctors_are t ps g h c cs x us rs e f k l n =
    ap (λ z. and_then z (λ y i. and_then (each (resolve g (under (map Some ps) [])) c.fields i) (λ fs i. and_then (declare_ctors t ps (with_own y (record { data_type = t; ctor = length g.own; params = length ps }) g) cs i) (λ r. pure (record { name = y; fields = fs } ∷ r.0, r.1))))) (new_is g c.ctor x e f n)
    ∙ ap (λ z. and_then z (λ fs i. and_then (declare_ctors t ps (with_own x (record { data_type = t; ctor = length g.own; params = length ps }) g) cs i) (λ r. pure (record { name = x; fields = fs } ∷ r.0, r.1)))) (k n)
    ∙ ap (λ z. and_then z (λ r. pure (record { name = x; fields = us } ∷ r.0, r.1))) (l n)

-- declarations
data_is : (g h : Globals) (d : Named) (ps : List Name) (cs : List CtorTree) (x : Name) (p : ℕ) (rs : List Constructor) → d.name ≡ x → is_taken g x ≡ false → length ps ≡ p → ((n : ℕ) → declare_ctors (length g.types) ps (with_type x g) cs n ≡ As (rs, h) n) → (n : ℕ) → declare g (DataD d ps cs) n ≡ As (DataC (record { name = x; params = p; ctors = rs }), settled h) n
data_is g h d ps cs x p rs e f l k n =
    ap (λ z. and_then z (λ y i. and_then (declare_ctors (length g.types) ps (with_type y g) cs i) (λ r. pure (DataC (record { name = y; params = length ps; ctors = r.0 }), settled r.1)))) (new_is g d x e f n)
    ∙ ap (λ z. and_then z (λ r. pure (DataC (record { name = x; params = length ps; ctors = r.0 }), settled r.1))) (k n)
    ∙ ap (λ q. As (DataC (record { name = x; params = q; ctors = rs }), settled h) n) l

meta_is : (g : Globals) (d : Named) (s t : Tree) (x : Name) (v u : Tm) → d.name ≡ x → is_taken g x ≡ false → Is g [] s v → Is g [] t u → (n : ℕ) → declare g (MetaD d s t) n ≡ As (MetaC x v u, with_variable x g) n
meta_is g d s t x v u e f h k n =
    ap (λ z. and_then z (λ y i. and_then (resolve g [] s i) (λ b i. and_then (resolve g [] t i) (λ c. pure (MetaC y b c, with_variable y g))))) (new_is g d x e f n)
    ∙ ap (λ z. and_then z (λ b i. and_then (resolve g [] t i) (λ c. pure (MetaC x b c, with_variable x g)))) (h n)
    ∙ ap (λ z. and_then z (λ c. pure (MetaC x v c, with_variable x g))) (k n)

object_is : (g : Globals) (d : Named) (s t : Tree) (x : Name) (v u : Tm) → d.name ≡ x → is_taken g x ≡ false → Is g [] s v → Is g [] t u → (n : ℕ) → declare g (ObjectD d s t) n ≡ As (ObjectC x v u, with_variable x g) n
object_is g d s t x v u e f h k n =
    ap (λ z. and_then z (λ y i. and_then (resolve g [] s i) (λ b i. and_then (resolve g [] t i) (λ c. pure (ObjectC y b c, with_variable y g))))) (new_is g d x e f n)
    ∙ ap (λ z. and_then z (λ b i. and_then (resolve g [] t i) (λ c. pure (ObjectC x b c, with_variable x g)))) (h n)
    ∙ ap (λ z. and_then z (λ c. pure (ObjectC x v c, with_variable x g))) (k n)

all_is : (g h : Globals) (t : DeclTree) (ts : List DeclTree) (d : Declaration) (ds : List Declaration) → ((n : ℕ) → declare g t n ≡ As (d, h) n) → ((n : ℕ) → declare_all h ts n ≡ As ds n) → (n : ℕ) → declare_all g (t ∷ ts) n ≡ As (d ∷ ds) n
all_is g h t ts d ds e f n = ap (λ z. and_then z (λ r i. and_then (declare_all r.1 ts i) (λ cs. pure (r.0 ∷ cs)))) (e n) ∙ ap (λ z. and_then z (λ cs. pure (d ∷ cs))) (f n)

module _ (N : Names) where
  -- a global name is one token of its own
  takes : (x : Name) → begins_plain x ≡ true → Takes GNAME (class.Name (begins_plain x))
  takes x e = subst (λ b. Takes GNAME (class.Name b)) (sym e) Takes.exact

  param_form : (k j : ℕ) → Gives N (a (phrase.Param k)) (piece.Mark sign.OpenParen ∷ piece.Local j ∷ piece.Mark sign.Colon ∷ piece.Word keyword.ValTy ∷ piece.Mark sign.CloseParen ∷ []) {A = ℕ} (λ n. meant.token (place false n) (class.Name false) (local_name j))
  param_form k j = g_map N
      (g_phrase N (phrase.Param k) 0 refl
      (g_token N (piece.Mark sign.OpenParen) _ Takes.exact
      (g_token N (piece.Local j) _ Takes.any_name
      (g_token N (piece.Mark sign.Colon) _ Takes.exact (g_token N (piece.Word keyword.ValTy) _ Takes.exact (g_token N (piece.Mark sign.CloseParen) [] Takes.exact (g_none N)))))))
      (λ x. x.1.1.0) (λ x. refl)

  params_form : (n j k : ℕ) → Gives N (a (phrase.Params k)) (parameters j n) {A = (v : Sem) × (names_in v ≡ param_names j n)} (λ x. x.0)
  params_form zero j k = g_map N (g_phrase N (phrase.Params k) 0 refl (g_none N)) (λ x. (meant.nothing, refl)) (λ x. refl)
  params_form (suc n) j k = g_map N
      (g_phrase N (phrase.Params k) 1 refl
      (g_both N (piece.Mark sign.OpenParen ∷ piece.Local j ∷ piece.Mark sign.Colon ∷ piece.Word keyword.ValTy ∷ piece.Mark sign.CloseParen ∷ []) (parameters (suc j) n) (param_form k j) (g_last N (parameters (suc j) n) (params_form n (suc j) (suc k)))))
      (λ x. (meant.also (meant.token (place false x.1.0) (class.Name false) (local_name j)) x.1.1.0, ap (λ l. local_name j ∷ l) x.1.1.1))
      (λ x. refl)

  -- terms that stand below these globals
  terms_of : (g : Globals) → Facts N g → Distinct g → (m d : ℕ) → d ≡ length g.variables + m → (t : Tm) → IsScoped g d t → AsTerm N g (printed (length g.variables) d t).pieces (locals m) (plain t)
  terms_of g f u m d e t s = term_of N g (finds N g f u) (locals m) (printed (length g.variables) d t) (plain t) (derive N g (finds N g f u) m d e t s)

  abbrev Fields_of : Globals → List Binder → List Tm → Type 0
  Fields_of g ls us = (v : Sem) × ((n : ℕ) → each (resolve g ls) (terms_in v) n ≡ As us n)

  field_form : (g : Globals) (ls : List Binder) (ps : List Piece) (u : Tm) → AsTerm N g ps ls u → (k : ℕ) → Gives N (a (phrase.Field true k)) ps {A = Tree_of N g ls u} (λ x. meant.term x.0)
  field_form g ls ps u h k = g_map N (g_phrase N (phrase.Field true k) 0 refl (g_last N ps (h 1))) (λ x. x.1) (λ x. refl)

  more_fields : (g : Globals) → Facts N g → Distinct g → (m d : ℕ) → d ≡ length g.variables + m → (ts : List Tm) → EachScoped g d ts → (k : ℕ) → Gives N (a (phrase.MoreFields true k)) (further (map (printed (length g.variables) d) ts)) {A = Fields_of g (locals m) (map plain ts)} (λ x. x.0)
  more_fields g f u m d e [] s k = g_map N (g_phrase N (phrase.MoreFields true k) 0 refl (g_none N)) (λ x. (meant.nothing, λ n. refl)) (λ x. refl)
  more_fields g f u m d e (t ∷ ts) s k =
      let ps : List Piece = (printed (length g.variables) d t).pieces in
      let qs : List Piece = further (map (printed (length g.variables) d) ts) in
      g_map N
      (g_phrase N (phrase.MoreFields true k) 1 refl
      (g_token N (piece.Mark sign.Comma) (ps ++ qs) Takes.exact (g_both N ps qs (field_form g (locals m) ps (plain t) (terms_of g f u m d e t s.0) k) (g_last N qs (more_fields g f u m d e ts s.1 (suc k))))))
      (λ x. (meant.also (meant.term x.1.1.0.0) x.1.1.1.0, each_is g (locals m) x.1.1.0.0 (terms_in x.1.1.1.0) (plain t) (map plain ts) x.1.1.0.1 x.1.1.1.1))
      (λ x. refl)

  fields_form : (g : Globals) → Facts N g → Distinct g → (m d : ℕ) → d ≡ length g.variables + m → (ts : List Tm) → EachScoped g d ts → (k : ℕ) → Gives N (a (phrase.Fields true k)) (listed (map (printed (length g.variables) d) ts)) {A = Fields_of g (locals m) (map plain ts)} (λ x. x.0)
  fields_form g f u m d e [] s k = g_map N (g_phrase N (phrase.Fields true k) 0 refl (g_none N)) (λ x. (meant.nothing, λ n. refl)) (λ x. refl)
  fields_form g f u m d e (t ∷ ts) s k =
      let ps : List Piece = (printed (length g.variables) d t).pieces in
      let qs : List Piece = further (map (printed (length g.variables) d) ts) in
      g_map N
      (g_phrase N (phrase.Fields true k) 1 refl (g_both N ps qs (field_form g (locals m) ps (plain t) (terms_of g f u m d e t s.0) k) (g_last N qs (more_fields g f u m d e ts s.1 (suc k)))))
      (λ x. (meant.also (meant.term x.1.0.0) x.1.1.0, each_is g (locals m) x.1.0.0 (terms_in x.1.1.0) (plain t) (map plain ts) x.1.0.1 x.1.1.1))
      (λ x. refl)

  -- a constructor of the data type with number t, which has p parameters
  abbrev Ctor_of : Globals → List Binder → Constructor → Type 0
  Ctor_of g ls c = (t : CtorTree) × (t.ctor.name ≡ c.name) × ((n : ℕ) → each (resolve g ls) t.fields n ≡ As (map plain c.fields) n)

  ctor_form : (g : Globals) → Facts N g → Distinct g → (t p j : ℕ) (c : Constructor) → ctor_name N t j ≡ c.name → begins_plain c.name ≡ true → EachScoped g (pieces.under (length g.variables) p) c.fields → (k : ℕ) →
      Gives N (a (phrase.Ctor true k)) (constructor (length g.variables) (pieces.under (length g.variables) p) t j c) {A = Ctor_of g (locals p) c} (λ x. meant.ctor x.0)
  ctor_form g f u t p j c e b s k =
      let d : ℕ = pieces.under (length g.variables) p in
      let ps : List Piece = listed (map (printed (length g.variables) d) c.fields) in
      g_map N
      (g_phrase N (phrase.Ctor true k) 0 refl
      (g_token N (piece.Ctor t j) _ (takes (ctor_name N t j) (ap begins_plain e ∙ b))
      (g_token N (piece.Mark sign.OpenParen) _ Takes.exact
      (g_both N ps (piece.Mark sign.CloseParen ∷ []) (fields_form g f u p d (under_sum (length g.variables) p) c.fields s 0) (g_token N (piece.Mark sign.CloseParen) [] Takes.exact (g_none N))))))
      (λ x. (record { ctor = record { at = place false x.1.0; name = ctor_name N t j }; fields = terms_in x.1.1.1.0.0 }, e, x.1.1.1.0.1))
      (λ x. refl)

  abbrev Ctors_of : (t p : ℕ) → Globals → List Constructor → Type 0
  Ctors_of t p g cs = (v : Sem) × ((n : ℕ) → declare_ctors t (param_names 0 p) g (ctors_in v) n ≡ As (map plain_constructor cs, below_ctors g t p cs) n)

  also_ctor : (t p : ℕ) (g : Globals) (c : Constructor) (cs : List Constructor) → is_taken g c.name ≡ false → (x : Ctor_of g (locals p) c) (y : Ctors_of t p (with_own c.name (next_ctor g t p) g) cs) → (n : ℕ) → declare_ctors t (param_names 0 p) g (x.0 ∷ ctors_in y.0) n ≡ As (map plain_constructor (c ∷ cs), below_ctors g t p (c ∷ cs)) n
  also_ctor t p g c cs f x y =
      ctors_are t (param_names 0 p) g (below_ctors (with_own c.name (next_ctor g t p) g) t p cs) x.0 (ctors_in y.0) c.name (map plain c.fields) (map plain_constructor cs) x.1 f
      (λ n. ap (λ l. each (resolve g l) x.0.fields n) (params_locals p) ∙ x.2 n)
      (λ n. ap (λ q. declare_ctors t (param_names 0 p) (with_own c.name (record { data_type = t; ctor = length g.own; params = q }) g) (ctors_in y.0) n) (params_length 0 p) ∙ y.1 n)

  -- the constructors behind some others
  ctors_form : (t p : ℕ) (data_type : Data) → slice_get N.types t ≡ Some data_type → (g : Globals) → Facts N g → Distinct g → (done cs : List Constructor) → data_type.ctors ≡ done ++ cs → (j : ℕ) → suc j ≡ length done → CtorsScoped g t p cs → (k : ℕ) →
      Gives N (a (phrase.MoreCtors true k)) (constructors (length g.variables) (pieces.under (length g.variables) p) t (suc j) cs) {A = Ctors_of t p g cs} (λ x. x.0)
  ctors_form t p d at g f u done [] e j q s k = g_map N (g_phrase N (phrase.MoreCtors true k) 0 refl (g_none N)) (λ x. (meant.nothing, λ n. refl)) (λ x. refl)
  ctors_form t p d at g f u done (c ∷ cs) e j q s k =
      let v : ℕ = length g.variables in
      let here : slice_get d.ctors (suc j) ≡ Some c = (λ i. slice_get (e i) (q i)) ∙ get_mid done c cs in
      let name : ctor_name N t (suc j) ≡ c.name = ap (λ o. elim o [ Some y ↦ ctor_in y (suc j) | None ↦ [] ]) at ∙ ap (λ o. elim o [ Some y ↦ y.name | None ↦ [] ]) here in
      let h : Globals = with_own c.name (next_ctor g t p) g in
      let ps : List Piece = constructor v (pieces.under v p) t (suc j) c in
      let qs : List Piece = constructors v (pieces.under v p) t (suc (suc j)) cs in
      g_map N
      (g_phrase N (phrase.MoreCtors true k) 1 refl
      (g_token N (piece.Mark sign.Bar) (ps ++ qs) Takes.exact
      (g_both N ps qs (ctor_form g f u t p (suc j) c name s.0.0.3 s.1 k)
      (g_last N qs (ctors_form t p d at h (facts_own N g c.name (next_ctor g t p) f) (distinct_own g c.name (next_ctor g t p) s.0.1 u) (done ++ c ∷ []) cs (e ∙ sym (append_assoc done (c ∷ []) cs)) (suc j) (omega (arith, q, length-append done (c ∷ []))) s.2 (suc k))))))
      (λ x. (meant.also (meant.ctor x.1.1.0.0) x.1.1.1.0, also_ctor t p g c cs s.0.1 x.1.1.0 x.1.1.1))
      (λ x. refl)

  all_ctors_form : (t p : ℕ) (data_type : Data) → slice_get N.types t ≡ Some data_type → (g : Globals) → Facts N g → Distinct g → (cs : List Constructor) → data_type.ctors ≡ cs → CtorsScoped g t p cs → (k : ℕ) →
      Gives N (a (phrase.Ctors true k)) (constructors (length g.variables) (pieces.under (length g.variables) p) t 0 cs) {A = Ctors_of t p g cs} (λ x. x.0)
  all_ctors_form t p d at g f u [] e s k = g_map N (g_phrase N (phrase.Ctors true k) 0 refl (g_none N)) (λ x. (meant.nothing, λ n. refl)) (λ x. refl)
  all_ctors_form t p d at g f u (c ∷ cs) e s k =
      let v : ℕ = length g.variables in
      let name : ctor_name N t 0 ≡ c.name = ap (λ o. elim o [ Some y ↦ ctor_in y 0 | None ↦ [] ]) at ∙ ap (λ l. elim (slice_get l 0) [ Some y ↦ y.name | None ↦ [] ]) e in
      let h : Globals = with_own c.name (next_ctor g t p) g in
      let ps : List Piece = constructor v (pieces.under v p) t 0 c in
      let qs : List Piece = constructors v (pieces.under v p) t 1 cs in
      g_map N
      (g_phrase N (phrase.Ctors true k) 1 refl
      (g_both N ps qs (ctor_form g f u t p 0 c name s.0.0.3 s.1 k)
      (g_last N qs (ctors_form t p d at h (facts_own N g c.name (next_ctor g t p) f) (distinct_own g c.name (next_ctor g t p) s.0.1 u) (c ∷ []) cs e 0 refl s.2 (suc k)))))
      (λ x. (meant.also (meant.ctor x.1.0.0) x.1.1.0, also_ctor t p g c cs s.0.1 x.1.0 x.1.1))
      (λ x. refl)

  -- a declaration
  abbrev Decl_of : Globals → Declaration → Type 0
  Decl_of g d = (t : DeclTree) × ((n : ℕ) → declare g t n ≡ As (plain_declaration d, below g d) n)

  -- a global at the beginning of its declaration
  at_start : (g : Globals) (ds : List Declaration) (x : Name) (rest : List Name) → (q : Agrees N g ds) → global_names ds ≡ x ∷ rest → global_name N (length g.variables) ≡ x
  at_start g ds x rest q e = next_global N q.outer rest x (length g.variables) (q.globals ∙ ap (λ l. q.outer ++ l) e) q.globals_count

  decl_form : (g : Globals) (d : Declaration) (ds : List Declaration) → Agrees N g (d ∷ ds) → Distinct g → DeclScoped g d → (k : ℕ) → Gives N (a (phrase.Decl true k)) (line (length g.types) (length g.variables) d) {A = Decl_of g d} (λ x. meant.decl x.0)
  decl_form g (DataC d) ds q u s k =
      let t : ℕ = length g.types in
      let v : ℕ = length g.variables in
      let at : slice_get N.types t ≡ Some d = next_type N q.front (data_types ds) d t q.types q.types_count in
      let name : type_name N t ≡ d.name = ap (λ o. elim o [ Some y ↦ y.name | None ↦ [] ]) at in
      let h : Globals = with_type d.name g in
      let ps : List Piece = parameters 0 d.params in
      let qs : List Piece = constructors v (pieces.under v d.params) t 0 d.ctors in
      g_map N
      (g_phrase N (phrase.Decl true k) 0 refl
      (g_token N (piece.Word keyword.Data) _ Takes.exact
      (g_token N (piece.DataType t) (ps ++ piece.Mark sign.Becomes ∷ (qs ++ piece.Mark sign.Semicolon ∷ [])) (takes (type_name N t) (ap begins_plain name ∙ s.0.0.3))
      (g_both N ps (piece.Mark sign.Becomes ∷ (qs ++ piece.Mark sign.Semicolon ∷ [])) (params_form d.params 0 0)
      (g_token N (piece.Mark sign.Becomes) (qs ++ piece.Mark sign.Semicolon ∷ []) Takes.exact
      (g_both N qs (piece.Mark sign.Semicolon ∷ []) (all_ctors_form t d.params d at h (facts_inside N g d ds s.0.0 q) (distinct_type g d.name s.0.1 u) d.ctors refl s.2 0)
      (g_token N (piece.Mark sign.Semicolon) [] Takes.exact (g_none N))))))))
      (λ x.
      let n : Named = record { at = place false x.1.1.0; name = type_name N t } in
      let us : List Name = names_in x.1.1.1.0.0 in
      let cs : List CtorTree = ctors_in x.1.1.1.1.1.0.0 in (
        DataD n us cs,
        data_is g (below_ctors h t d.params d.ctors) n us cs d.name d.params (map plain_constructor d.ctors) name s.0.1 (ap length x.1.1.1.0.1 ∙ params_length 0 d.params)
            (λ i. ap (λ l. declare_ctors t l h cs i) x.1.1.1.0.1 ∙ x.1.1.1.1.1.0.1 i),
      ))
      (λ x. refl)
  decl_form g (MetaC x b c) ds q u s k =
      let v : ℕ = length g.variables in
      let name : global_name N v ≡ x = at_start g (MetaC x b c ∷ ds) x (global_names ds) q refl in
      let f : Facts N g = facts N g (MetaC x b c ∷ ds) q in
      let ps : List Piece = (printed v v b).pieces in
      let qs : List Piece = (printed v v c).pieces in
      let e : v ≡ v + 0 = omega arith in
      g_map N
      (g_phrase N (phrase.Decl true k) 1 refl
      (g_token N (piece.Word keyword.Meta) _ Takes.exact
      (g_token N (piece.Global v) _ (takes (global_name N v) (ap begins_plain name ∙ s.0.0.3))
      (g_token N (piece.Mark sign.Colon) (ps ++ piece.Mark sign.Becomes ∷ (qs ++ piece.Mark sign.Semicolon ∷ [])) Takes.exact
      (g_both N ps (piece.Mark sign.Becomes ∷ (qs ++ piece.Mark sign.Semicolon ∷ [])) (terms_of g f u 0 v e b s.1 1)
      (g_token N (piece.Mark sign.Becomes) (qs ++ piece.Mark sign.Semicolon ∷ []) Takes.exact
      (g_both N qs (piece.Mark sign.Semicolon ∷ []) (terms_of g f u 0 v e c s.2 1) (g_token N (piece.Mark sign.Semicolon) [] Takes.exact (g_none N)))))))))
      (λ y.
      let n : Named = record { at = place false y.1.1.0; name = global_name N v } in
      (MetaD n y.1.1.1.1.0.0 y.1.1.1.1.1.1.0.0, meta_is g n y.1.1.1.1.0.0 y.1.1.1.1.1.1.0.0 x (plain b) (plain c) name s.0.1 y.1.1.1.1.0.1 y.1.1.1.1.1.1.0.1))
      (λ y. refl)
  decl_form g (ObjectC x b c) ds q u s k =
      let v : ℕ = length g.variables in
      let name : global_name N v ≡ x = at_start g (ObjectC x b c ∷ ds) x (global_names ds) q refl in
      let f : Facts N g = facts N g (ObjectC x b c ∷ ds) q in
      let ps : List Piece = (printed v v b).pieces in
      let qs : List Piece = (printed v v c).pieces in
      let e : v ≡ v + 0 = omega arith in
      g_map N
      (g_phrase N (phrase.Decl true k) 2 refl
      (g_token N (piece.Global v) _ (takes (global_name N v) (ap begins_plain name ∙ s.0.0.3))
      (g_token N (piece.Mark sign.Colon) (ps ++ piece.Mark sign.Becomes ∷ (qs ++ piece.Mark sign.Semicolon ∷ [])) Takes.exact
      (g_both N ps (piece.Mark sign.Becomes ∷ (qs ++ piece.Mark sign.Semicolon ∷ [])) (terms_of g f u 0 v e b s.1 1)
      (g_token N (piece.Mark sign.Becomes) (qs ++ piece.Mark sign.Semicolon ∷ []) Takes.exact
      (g_both N qs (piece.Mark sign.Semicolon ∷ []) (terms_of g f u 0 v e c s.2 1) (g_token N (piece.Mark sign.Semicolon) [] Takes.exact (g_none N))))))))
      (λ y.
      let n : Named = record { at = place false y.1.0; name = global_name N v } in
      (ObjectD n y.1.1.1.0.0 y.1.1.1.1.1.0.0, object_is g n y.1.1.1.0.0 y.1.1.1.1.1.0.0 x (plain b) (plain c) name s.0.1 y.1.1.1.0.1 y.1.1.1.1.1.0.1))
      (λ y. refl)

  -- declarations
  abbrev pub Decls_of : Globals → List Declaration → Type 0
  Decls_of g ds = (v : Sem) × ((n : ℕ) → declare_all g (decls_in v) n ≡ As (map plain_declaration ds) n)

  pub decls_form : (g : Globals) (ds : List Declaration) (t v : ℕ) → t ≡ length g.types → v ≡ length g.variables → Agrees N g ds → Distinct g → AllScoped g ds → (k : ℕ) → Gives N (a (phrase.Decls true k)) (flat (lines t v ds)) {A = Decls_of g ds} (λ x. x.0)
  decls_form g [] t v e f q u s k = g_map N (g_phrase N (phrase.Decls true k) 0 refl (g_none N)) (λ x. (meant.nothing, λ n. refl)) (λ x. refl)
  decls_form g (d ∷ ds) t v e f q u s k =
      let l : List Piece = line t v d in
      let ls : List Piece = flat (lines (types_below t d) (globals_below v d) ds) in
      let first : Gives N (a (phrase.Decl true k)) l {A = Decl_of g d} (λ x. meant.decl x.0) =
      subst (λ i. Gives N (a (phrase.Decl true k)) (line i v d) {A = Decl_of g d} (λ x. meant.decl x.0)) (sym e)
      (subst (λ i. Gives N (a (phrase.Decl true k)) (line (length g.types) i d) {A = Decl_of g d} (λ x. meant.decl x.0)) (sym f) (decl_form g d ds q u s.0 k)) in
      g_map N
      (g_phrase N (phrase.Decls true k) 1 refl
      (g_both N l ls first
      (g_last N ls (decls_form (below g d) ds (types_below t d) (globals_below v d) (types_at g d t e) (globals_at g d v f) (agrees_below N g d ds s.0 q) (distinct_below g d s.0 u) s.1 (suc k)))))
      (λ x. (meant.also (meant.decl x.1.0.0) x.1.1.0, all_is g (below g d) x.1.0.0 (decls_in x.1.1.0) (plain_declaration d) (map plain_declaration ds) x.1.0.1 x.1.1.1))
      (λ x. refl)
