-- What each right side of an explicit program's grammar makes of written parts is written.
use Rattle.std.proofs.Common.{◌≡◌, refl, subst, arith, ℕ, suc, ◌+◌, ◌<◌, ◌≤◌, Bool, true, false, List, [], ◌∷◌, ◌++◌, length, Some}
use Rattle.std.specs.Prelude.{IsTrue}
use Rattle.cf_base.specs.declared.at.At.{At}
use Rattle.cf_lex.specs.declared.keywords.Keyword.{Keyword}
use Rattle.cf_lex.specs.declared.keywords.Keyword.TheVariants as keyword
use Rattle.cf_grammar.specs.declared.classes.Class.{Class}
use Rattle.cf_grammar.specs.declared.classes.Class.TheVariants as class
use Rattle.cf_tree.specs.declared.heads.Head.{Head}
use Rattle.cf_tree.specs.declared.heads.Head.TheVariants as head
use Rattle.cf_tree.specs.Tree as trees
use Rattle.cf_tree.specs.Tree.{Plain, Tree, tree, Trees, part, CtorTree, DeclTree, DataD, MetaD, ObjectD}
use Rattle.cf_syntax.specs.Numbers.{natlit_of, whole_of, fits_word}
use Rattle.cf_parse.specs.Meaning.{Action, Sem, arms_in, binders_in, ctors_in, decls_in, form, names_in, of_word, operands, arguments, parts, terms_in, atoms_in}
use Rattle.cf_parse.specs.Meaning as meant
use Rattle.cf_parse.specs.Words.{form_of}
use Rattle.cf_printed.specs.Scoped.{IsName}
use Rattle.cf_printed.proofs.Written.{AllWritten, AreCtorTrees, AreDecls, AreTerms, ArmsWritten, IsDecl, IsShaped, Written, cases, construction, data_type, no_arm, no_part, one_arm, one_part, plain, shape, size, sizes, variable, zeros, number_of}

-- kinds of meanings of an explicit program's phrases and tokens
pub data Kind : Type 0 where
  Any Name Global Whole NatLit Term Binder Domain Argument Onto Bracketed Arm Ctor Decl Nothing : Kind
  Word : Keyword → Kind
  Many Maybe : Kind → Kind

abbrev pub EachWritten : List Tree → Type 0
EachWritten [] = Unit {0}
EachWritten (t ∷ ts) = Written t × EachWritten ts

abbrev pub list_size : List Tree → ℕ
list_size [] = 0
list_size (t ∷ ts) = size t + list_size ts

-- a meaning of a kind with its parts written, and no larger than w allows; a token has 100
pub data Made : Kind → ℕ → Sem → Type 0 where
  a_token : {w : ℕ} {p : At} {k : Class} {x : trees.Name} → 100 ≤ w → Made Any w (meant.token p k x)
  a_name : {w : ℕ} {p : At} {k : Class} {x : trees.Name} → 100 ≤ w → Made Name w (meant.token p k x)
  a_global : {w : ℕ} {p : At} {k : Class} {x : trees.Name} → IsName x → 100 ≤ w → Made Global w (meant.token p k x)
  a_whole : {w : ℕ} {p : At} {k : Class} {x : trees.Name} → IsTrue (fits_word (whole_of x)) → 100 ≤ w → Made Whole w (meant.token p k x)
  a_natlit : {w : ℕ} {p : At} {k : Class} {x : trees.Name} → natlit_of x ≤ 64 → 100 ≤ w → Made NatLit w (meant.token p k x)
  a_word : {w : ℕ} {p : At} {y : Keyword} {x : trees.Name} → 100 ≤ w → Made (Word y) w (meant.token p (class.Word y) x)
  a_term : {w : ℕ} {t : Tree} → Written t → size t < w → Made Term w (meant.term t)
  a_binder : {w : ℕ} {b : trees.Binder} → 100 ≤ w → Made Binder w (meant.binder b)
  a_domain : {w : ℕ} {i : Bool} {b : trees.Binder} {t : Tree} → Written t → size t + 50 ≤ w → Made Domain w (meant.domain i b (Some t))
  an_argument : {w : ℕ} {i : Bool} {t : Tree} → Written t → size t < w → Made Argument w (meant.argument i t)
  an_onto : {w : ℕ} {o : Bool} {t : Tree} → Written t → size t + 50 ≤ w → Made Onto w (meant.onto o t)
  brackets : {w : ℕ} {ts : List Tree} → EachWritten ts → list_size ts + 50 ≤ w → Made Bracketed w (meant.bracketed ts)
  an_arm : {w : ℕ} {c : trees.Named} {bs : List trees.Binder} {t : Tree} → Written t → length bs + size t < w → Made Arm w (meant.arm c bs t)
  a_ctor : {w : ℕ} {c : CtorTree} → IsName c.ctor.name → AreTerms w c.fields → Made Ctor w (meant.ctor c)
  a_decl : {w : ℕ} {d : DeclTree} → IsDecl w d → Made Decl w (meant.decl d)
  a_nothing : {w : ℕ} → Made Nothing w meant.nothing
  none : {w : ℕ} {j : Kind} → Made (Many j) w meant.nothing
  more : {v u w : ℕ} {j : Kind} {x xs : Sem} → Made j v x → Made (Many j) u xs → v + u ≤ w → Made (Many j) w (meant.also x xs)
  left_out : {w : ℕ} {j : Kind} → Made (Maybe j) w meant.nothing
  given : {w : ℕ} {j : Kind} {x : Sem} → Made j w x → Made (Maybe j) w x

-- meanings of these kinds, all together no larger than w allows
pub data AllMade : List Kind → ℕ → List Sem → Type 0 where
  end : {w : ℕ} → AllMade [] w []
  next : {v u w : ℕ} {j : Kind} {js : List Kind} {x : Sem} {xs : List Sem} → Made j v x → AllMade js u xs → v + u ≤ w → AllMade (j ∷ js) w (x ∷ xs)

-- lists
terms_made : (w : ℕ) (v : Sem) → Made (Many Term) w v → EachWritten (terms_in v) × (list_size (terms_in v) ≤ w)
terms_made w _ none = (tt, omega arith)
terms_made w _ (more {u = u} {xs = xs} (a_term h l) m k) = let r = terms_made u xs m in let s = r.1 in ((h, r.0), omega (arith, l, k, s))

arms_made : (w : ℕ) (v : Sem) → Made (Many Arm) w v → ArmsWritten (arms_in v) × (sizes (arms_in v) ≤ w)
arms_made w _ none = (no_arm, omega arith)
arms_made w _ (more {u = u} {xs = xs} (an_arm h l) m k) = let r = arms_made u xs m in let s = r.1 in (one_arm h r.0, omega (arith, l, k, s))

binders_made : (w : ℕ) (v : Sem) → Made (Many Binder) w v → length (binders_in v) ≤ w
binders_made w _ none = omega arith
binders_made w _ (more {u = u} {xs = xs} (a_binder l) m k) = let r = binders_made u xs m in omega (arith, l, k, r)

names_made : (w : ℕ) (v : Sem) → Made (Many Name) w v → length (names_in v) ≤ w
names_made w _ none = omega arith
names_made w _ (more {u = u} {xs = xs} (a_name l) m k) = let r = names_made u xs m in omega (arith, l, k, r)

fields_made : (w z : ℕ) (v : Sem) → Made (Many Term) w v → w ≤ z → AreTerms z (terms_in v)
fields_made w z _ none i = tt
fields_made w z _ (more {u = u} {xs = xs} (a_term h l) m k) i = ((h, omega (arith, l, k, i)), fields_made u z xs m (omega (arith, k, i)))

terms_wide : (v w : ℕ) → v ≤ w → (ts : List Tree) → AreTerms v ts → AreTerms w ts
terms_wide v w l [] h = tt
terms_wide v w l (t ∷ ts) h = let k = h.0.1 in ((h.0.0, omega (arith, k, l)), terms_wide v w l ts h.1)

decl_wide : (v w : ℕ) → v ≤ w → (d : DeclTree) → IsDecl v d → IsDecl w d
decl_wide v w l (DataD n ps cs) h = let k = h.1.1 in (h.0, (h.1.0, omega (arith, k, l), h.1.2))
decl_wide v w l (MetaD n a t) h = let j = h.1.1 in let k = h.2.1 in (h.0, (h.1.0, omega (arith, j, l)), (h.2.0, omega (arith, k, l)))
decl_wide v w l (ObjectD n a t) h = let j = h.1.1 in let k = h.2.1 in (h.0, (h.1.0, omega (arith, j, l)), (h.2.0, omega (arith, k, l)))

ctors_made : (w z : ℕ) (v : Sem) → Made (Many Ctor) w v → w ≤ z → AreCtorTrees z (ctors_in v)
ctors_made w z _ none i = tt
ctors_made w z _ (more {v = v} {u = u} {xs = xs} (a_ctor {c = c} h q) m k) i = (h, terms_wide v z (omega (arith, k, i)) c.fields q, ctors_made u z xs m (omega (arith, k, i)))

pub decls_made : (w z : ℕ) (v : Sem) → Made (Many Decl) w v → w ≤ z → AreDecls z (decls_in v)
decls_made w z _ none i = tt
decls_made w z _ (more {v = v} {u = u} {xs = xs} (a_decl {d = d} q) m k) i = (decl_wide v z (omega (arith, k, i)) d q, decls_made u z xs m (omega (arith, k, i)))

-- parts under no binder
parts_written : (ts : List Tree) → EachWritten ts → (n : ℕ) × AllWritten (zeros n []) (parts ts)
parts_written [] h = (0, no_part)
parts_written (t ∷ ts) h = let r = parts_written ts h.1 in (suc r.0, one_part refl h.0 r.1)

two_written : (us ts : List Tree) → EachWritten us → EachWritten ts → (n : ℕ) × AllWritten (zeros (length us) (zeros n [])) (parts (us ++ ts))
two_written [] ts g h = parts_written ts h
two_written (u ∷ us) ts g h = let r = two_written us ts g.1 h in (r.0, one_part refl g.0 r.1)

sizes_parts : (ts : List Tree) → sizes (parts ts) ≡ list_size ts
sizes_parts [] = refl
sizes_parts (t ∷ ts) = let e = sizes_parts ts in omega (arith, e)

sizes_two : (us ts : List Tree) → sizes (parts (us ++ ts)) ≡ list_size us + list_size ts
sizes_two [] ts = let e = sizes_parts ts in omega (arith, e)
sizes_two (u ∷ us) ts = let e = sizes_two us ts in omega (arith, e)

-- a form over two parts under no binder
pair_written : (p : At) (h : Head) (t u : Tree) → IsShaped h → 0 ∷ 0 ∷ [] ≡ shape h → Written t → Written u → Written (form p h (t ∷ u ∷ []))
pair_written p h t u i e a b = plain i (subst (λ ns. AllWritten ns (parts (t ∷ u ∷ []))) e (one_part refl a (one_part refl b no_part)))

operands_made : (p : At) (w z y : ℕ) (t : Tree) (v : Sem) → Written t → size t < z → Made (Many Term) w v → z + w ≤ y → Made Term y (meant.term (operands p t v))
operands_made p w z y t _ h l none k = a_term h (omega (arith, l, k))
operands_made p w z y t _ h l (more {v = v} {u = u} {xs = xs} (a_term {t = s} a m) q n) k =
    operands_made p u (z + v) y (form p head.OApp (t ∷ s ∷ [])) xs (pair_written p head.OApp t s tt refl h a) (omega (arith, l, m)) q (omega (arith, n, k))

arguments_made : (p : At) (w z y : ℕ) (t : Tree) (v : Sem) → Written t → size t < z → Made (Many Argument) w v → z + w ≤ y → Made Term y (meant.term (arguments p t v))
arguments_made p w z y t _ h l none k = a_term h (omega (arith, l, k))
arguments_made p w z y t _ h l (more {v = v} {u = u} {xs = xs} (an_argument {i = i} {t = s} a m) q n) k =
    arguments_made p u (z + v) y (form p (head.App i) (t ∷ s ∷ [])) xs (pair_written p (head.App i) t s tt refl h a) (omega (arith, l, m)) q (omega (arith, n, k))

-- an action makes a meaning of kind j of meanings of these kinds
abbrev pub Acts : List Kind → Action → Kind → Type 0
Acts js f j = (p : At) (w : ℕ) (vs : List Sem) → AllMade js w vs → Made j w (f p vs)

pub more_acts : (j : Kind) → Acts (j ∷ Many j ∷ []) meant.more (Many j)
more_acts j p w _ (next h (next m end l) k) = more h m (omega (arith, l, k))

pub behind_acts : (j : Kind) → Acts (Any ∷ j ∷ Many j ∷ []) meant.more_behind (Many j)
behind_acts j p w _ (next (a_token q) (next h (next m end l) k) i) = more h m (omega (arith, l, k, i))

-- declarations
pub data_acts : Acts (Word keyword.Data ∷ Global ∷ Many Name ∷ Any ∷ Many Ctor ∷ Any ∷ []) meant.data_decl Decl
data_acts p w _ (next (a_word l1) (next (a_global g2 l2) (next {v = w3} {x = x3} m3 (next (a_token l4) (next {v = w5} {x = x5} m5 (next (a_token l6) end k6) k5) k4) k3) k2) k1) =
    let a = names_made w3 x3 m3 in
    a_decl (g2, (w5, omega (arith, a, l6, k6, k5, l4, k4, k3, l2, k2, l1, k1), ctors_made w5 w5 x5 m5 (omega arith)))

pub meta_acts : Acts (Word keyword.Meta ∷ Global ∷ Any ∷ Term ∷ Any ∷ Term ∷ Any ∷ []) meant.meta_decl Decl
meta_acts p w _ (next (a_word l1) (next (a_global g2 l2) (next (a_token l3) (next (a_term {t = s4} t4 l4) (next (a_token l5) (next (a_term {t = s6} t6 l6) (next (a_token l7) end k7) k6) k5) k4) k3) k2) k1) = a_decl (g2, (t4, omega (arith, l7, k7, l6, k6, l5, k5, l4, k4, l3, k3, l2, k2, l1, k1)), (t6, omega (arith, l7, k7, l6, k6, l5, k5, l4, k4, l3, k3, l2, k2, l1, k1)))

pub object_acts : Acts (Global ∷ Any ∷ Term ∷ Any ∷ Term ∷ Any ∷ []) meant.object_decl Decl
object_acts p w _ (next (a_global g1 l1) (next (a_token l2) (next (a_term {t = s3} t3 l3) (next (a_token l4) (next (a_term {t = s5} t5 l5) (next (a_token l6) end k6) k5) k4) k3) k2) k1) = a_decl (g1, (t3, omega (arith, l6, k6, l5, k5, l4, k4, l3, k3, l2, k2, l1, k1)), (t5, omega (arith, l6, k6, l5, k5, l4, k4, l3, k3, l2, k2, l1, k1)))

pub param_acts : Acts (Any ∷ Name ∷ Any ∷ Word keyword.ValTy ∷ Any ∷ []) meant.second Name
param_acts p w _ (next (a_token l1) (next (a_name l2) (next (a_token l3) (next (a_word l4) (next (a_token l5) end k5) k4) k3) k2) k1) = a_name (omega (arith, l5, k5, l4, k4, l3, k3, l2, k2, l1, k1))

pub ctor_acts : Acts (Global ∷ Any ∷ Many Term ∷ Any ∷ []) meant.a_ctor Ctor
ctor_acts p w _ (next (a_global g1 l1) (next (a_token l2) (next {v = w3} {x = x3} m3 (next (a_token l4) end k4) k3) k2) k1) = a_ctor g1 (fields_made w3 w x3 m3 (omega (arith, l4, k4, k3, l2, k2, l1, k1)))

pub same_acts : Acts (Term ∷ []) meant.same Term
same_acts p w _ (next (a_term {t = s1} t1 l1) end k1) = a_term t1 (omega (arith, l1, k1))

pub type_acts : Acts (Any ∷ Term ∷ []) meant.second Term
type_acts p w _ (next (a_token l1) (next (a_term {t = s2} t2 l2) end k2) k1) = a_term t2 (omega (arith, l2, k2, l1, k1))

-- binders
pub named_acts : Acts (Name ∷ []) meant.named Binder
named_acts p w _ (next (a_name l1) end k1) = a_binder (omega (arith, l1, k1))

pub unnamed_acts : Acts (Any ∷ []) meant.unnamed Binder
unnamed_acts p w _ (next (a_token l1) end k1) = a_binder (omega (arith, l1, k1))

pub typed_acts : (i : Bool) → Acts (Any ∷ Binder ∷ Any ∷ Term ∷ Any ∷ []) (meant.typed i) Domain
typed_acts i p w _ (next (a_token l1) (next (a_binder l2) (next (a_token l3) (next (a_term {t = s4} t4 l4) (next (a_token l5) end k5) k4) k3) k2) k1) = a_domain t4 (omega (arith, l5, k5, l4, k4, l3, k3, l2, k2, l1, k1))

-- terms
pub lambda_acts : Acts (Any ∷ Domain ∷ Any ∷ Term ∷ []) meant.lambda Term
lambda_acts p w _ (next (a_token l1) (next (a_domain t2 l2) (next (a_token l3) (next (a_term {t = s4} t4 l4) end k4) k3) k2) k1) = a_term (plain tt (one_part refl t2 (one_part refl t4 no_part))) (omega (arith, l4, k4, l3, k3, l2, k2, l1, k1))

pub function_acts : Acts (Word keyword.Fn ∷ Domain ∷ Any ∷ Term ∷ []) meant.function Term
function_acts p w _ (next (a_word l1) (next (a_domain t2 l2) (next (a_token l3) (next (a_term {t = s4} t4 l4) end k4) k3) k2) k1) = a_term (plain tt (one_part refl t2 (one_part refl t4 no_part))) (omega (arith, l4, k4, l3, k3, l2, k2, l1, k1))

pub let_acts : Acts (Word keyword.MetaLet ∷ Binder ∷ Any ∷ Term ∷ Any ∷ Term ∷ Any ∷ Term ∷ []) (meant.definition head.Let) Term
let_acts p w _ (next (a_word l1) (next (a_binder l2) (next (a_token l3) (next (a_term {t = s4} t4 l4) (next (a_token l5) (next (a_term {t = s6} t6 l6) (next (a_token l7) (next (a_term {t = s8} t8 l8) end k8) k7) k6) k5) k4) k3) k2) k1) = a_term (plain tt (one_part refl t4 (one_part refl t6 (one_part refl t8 no_part)))) (omega (arith, l8, k8, l7, k7, l6, k6, l5, k5, l4, k4, l3, k3, l2, k2, l1, k1))

pub letv_acts : Acts (Word keyword.Let ∷ Binder ∷ Any ∷ Term ∷ Any ∷ Term ∷ Any ∷ Term ∷ []) (meant.definition head.LetV) Term
letv_acts p w _ (next (a_word l1) (next (a_binder l2) (next (a_token l3) (next (a_term {t = s4} t4 l4) (next (a_token l5) (next (a_term {t = s6} t6 l6) (next (a_token l7) (next (a_term {t = s8} t8 l8) end k8) k7) k6) k5) k4) k3) k2) k1) = a_term (plain tt (one_part refl t4 (one_part refl t6 (one_part refl t8 no_part)))) (omega (arith, l8, k8, l7, k7, l6, k6, l5, k5, l4, k4, l3, k3, l2, k2, l1, k1))

pub letrec_acts : Acts (Word keyword.LetRec ∷ Binder ∷ Any ∷ Term ∷ Any ∷ Term ∷ Any ∷ Term ∷ []) meant.recursion Term
letrec_acts p w _ (next (a_word l1) (next (a_binder l2) (next (a_token l3) (next (a_term {t = s4} t4 l4) (next (a_token l5) (next (a_term {t = s6} t6 l6) (next (a_token l7) (next (a_term {t = s8} t8 l8) end k8) k7) k6) k5) k4) k3) k2) k1) = a_term (plain tt (one_part refl t4 (one_part refl t6 (one_part refl t8 no_part)))) (omega (arith, l8, k8, l7, k7, l6, k6, l5, k5, l4, k4, l3, k3, l2, k2, l1, k1))

pub pi_acts : Acts (Word keyword.Pi ∷ Domain ∷ Any ∷ Term ∷ []) meant.function_type Term
pi_acts p w _ (next (a_word l1) (next (a_domain t2 l2) (next (a_token l3) (next (a_term {t = s4} t4 l4) end k4) k3) k2) k1) = a_term (plain tt (one_part refl t2 (one_part refl t4 no_part))) (omega (arith, l4, k4, l3, k3, l2, k2, l1, k1))

pub sig_acts : Acts (Word keyword.Sig ∷ Any ∷ Binder ∷ Any ∷ Term ∷ Any ∷ Any ∷ Term ∷ []) meant.pair_type Term
sig_acts p w _ (next (a_word l1) (next (a_token l2) (next (a_binder l3) (next (a_token l4) (next (a_term {t = s5} t5 l5) (next (a_token l6) (next (a_token l7) (next (a_term {t = s8} t8 l8) end k8) k7) k6) k5) k4) k3) k2) k1) = a_term (plain tt (one_part refl t5 (one_part refl t8 no_part))) (omega (arith, l8, k8, l7, k7, l6, k6, l5, k5, l4, k4, l3, k3, l2, k2, l1, k1))

pub case_acts : Acts (Word keyword.Case ∷ Term ∷ Term ∷ Word keyword.Of ∷ Any ∷ Many Arm ∷ Any ∷ []) meant.cases Term
case_acts p w _ (next (a_word l1) (next (a_term {t = s2} t2 l2) (next (a_term {t = s3} t3 l3) (next (a_word l4) (next (a_token l5) (next {v = w6} {x = x6} m6 (next (a_token l7) end k7) k6) k5) k4) k3) k2) k1) =
    let r = arms_made w6 x6 m6 in
    let z = r.1 in
    a_term (cases t2 t3 r.0) (omega (arith, z, l7, k7, k6, l5, k5, l4, k4, l3, k3, l2, k2, l1, k1))

pub arm_acts : Acts (Name ∷ Many Binder ∷ Any ∷ Term ∷ []) meant.an_arm Arm
arm_acts p w _ (next (a_name l1) (next {v = w2} {x = x2} m2 (next (a_token l3) (next (a_term {t = s4} t4 l4) end k4) k3) k2) k1) =
    let r = binders_made w2 x2 m2 in
    an_arm t4 (omega (arith, r, l4, k4, l3, k3, k2, l1, k1))

pub onto_false : Acts (Any ∷ Term ∷ []) (meant.behind false) (Maybe Onto)
onto_false p w _ (next (a_token l1) (next (a_term {t = s2} t2 l2) end k2) k1) = given (an_onto t2 (omega (arith, l2, k2, l1, k1)))

pub onto_true : Acts (Any ∷ Term ∷ []) (meant.behind true) (Maybe Onto)
onto_true p w _ (next (a_token l1) (next (a_term {t = s2} t2 l2) end k2) k1) = given (an_onto t2 (omega (arith, l2, k2, l1, k1)))

pub arrow_acts : Acts (Term ∷ Maybe Onto ∷ []) meant.arrow Term
arrow_acts p w _ (next (a_term {t = s1} t1 l1) (next left_out end k2) k1) = a_term t1 (omega (arith, k2, l1, k1))
arrow_acts p w _ (next (a_term {t = s1} t1 l1) (next (given (an_onto {o = false} t2 l2)) end k2) k1) = a_term (plain tt (one_part refl t1 (one_part refl t2 no_part))) (omega (arith, l2, k2, l1, k1))
arrow_acts p w _ (next (a_term {t = s1} t1 l1) (next (given (an_onto {o = true} t2 l2)) end k2) k1) = a_term (plain tt (one_part refl t1 (one_part refl t2 no_part))) (omega (arith, l2, k2, l1, k1))

pub chain_acts : Acts (Term ∷ Many Term ∷ []) meant.chain Term
chain_acts p w _ (next {v = v} (a_term {t = t} h l) (next {v = u} {x = x} m end j) k) = operands_made p u v w t x h l m (omega (arith, j, k))

pub application_acts : Acts (Term ∷ Many Argument ∷ []) meant.application Term
application_acts p w _ (next {v = v} (a_term {t = t} h l) (next {v = u} {x = x} m end j) k) = arguments_made p u v w t x h l m (omega (arith, j, k))

pub argument_acts : Acts (Term ∷ []) meant.explicit_argument Argument
argument_acts p w _ (next (a_term {t = s1} t1 l1) end k1) = an_argument t1 (omega (arith, l1, k1))

-- atoms
pub variable_acts : Acts (Name ∷ Maybe Bracketed ∷ []) meant.variable Term
variable_acts p w _ (next (a_name l1) (next (given (brackets {ts = ts} t2 l2)) end k2) k1) = let r = parts_written ts t2 in let e = sizes_parts ts in a_term (data_type r.0 r.1) (omega (arith, e, l2, k2, l1, k1))
variable_acts p w _ (next (a_name l1) (next left_out end k2) k1) = a_term variable (omega (arith, k2, l1, k1))

pub literal_acts : Acts (Whole ∷ []) meant.literal Term
literal_acts p w _ (next (a_whole g1 l1) end k1) = a_term (plain g1 no_part) (omega (arith, l1, k1))

pub numeral_acts : Acts (NatLit ∷ []) meant.numeral Term
numeral_acts p w _ (next (a_natlit g1 l1) end k1) = a_term (plain tt no_part) (omega (arith, l1, g1, k1))

pub construction_acts : Acts (Word keyword.Con ∷ Name ∷ Bracketed ∷ Any ∷ Many Term ∷ Any ∷ []) meant.construction Term
construction_acts p w _ (next (a_word l1) (next (a_name l2) (next (brackets {ts = us} t3 l3) (next (a_token l4) (next {v = w5} {x = x5} m5 (next (a_token l6) end k6) k5) k4) k3) k2) k1) =
    let r = terms_made w5 x5 m5 in
    let z = r.1 in
    let o = two_written us (terms_in x5) t3 r.0 in
    let e = sizes_two us (terms_in x5) in
    a_term (construction o.0 o.1) (omega (arith, z, e, l6, k6, k5, l4, k4, l3, k3, l2, k2, l1, k1))

pub enclosed_acts : Acts (Any ∷ Term ∷ Nothing ∷ Any ∷ []) meant.enclosed Term
enclosed_acts p w _ (next (a_token l1) (next (a_term {t = s2} t2 l2) (next a_nothing (next (a_token l4) end k4) k3) k2) k1) = a_term t2 (omega (arith, l4, k4, k3, l2, k2, l1, k1))

pub quote_acts : Acts (Any ∷ Term ∷ Any ∷ []) meant.quote Term
quote_acts p w _ (next (a_token l1) (next (a_term {t = s2} t2 l2) (next (a_token l3) end k3) k2) k1) = a_term (plain tt (one_part refl t2 no_part)) (omega (arith, l3, k3, l2, k2, l1, k1))

pub splice_acts : Acts (Any ∷ Term ∷ []) (meant.marked head.Splice) Term
splice_acts p w _ (next (a_token l1) (next (a_term {t = s2} t2 l2) end k2) k1) = a_term (plain tt (one_part refl t2 no_part)) (omega (arith, l2, k2, l1, k1))

pub lift_acts : Acts (Any ∷ Term ∷ []) (meant.marked head.Lift) Term
lift_acts p w _ (next (a_token l1) (next (a_term {t = s2} t2 l2) end k2) k1) = a_term (plain tt (one_part refl t2 no_part)) (omega (arith, l2, k2, l1, k1))

pub brackets_acts : Acts (Any ∷ Many Term ∷ Any ∷ []) meant.brackets Bracketed
brackets_acts p w _ (next (a_token l1) (next {v = w2} {x = x2} m2 (next (a_token l3) end k3) k2) k1) =
    let r = terms_made w2 x2 m2 in
    let z = r.1 in
    brackets r.0 (omega (arith, z, l3, k3, k2, l1, k1))

pub maybe_brackets_acts : Acts (Any ∷ Many Term ∷ Any ∷ []) meant.brackets (Maybe Bracketed)
maybe_brackets_acts p w _ (next (a_token l1) (next {v = w2} {x = x2} m2 (next (a_token l3) end k3) k2) k1) =
    let r = terms_made w2 x2 m2 in
    let z = r.1 in
    given (brackets r.0 (omega (arith, z, l3, k3, k2, l1, k1)))

-- words with their atoms

pub word0 : (y : Keyword) (h : Head) → Some h ≡ form_of y → IsShaped h → [] ≡ shape h → number_of (Plain h) ≡ 0 → Acts (Word y ∷ []) meant.worded Term
word0 y h e i q z p w _ (next (a_word l1) end k1) =
    subst (λ o. Made Term w (of_word p o ([]))) e (a_term (plain i (subst (λ ns. AllWritten ns (parts ([]))) q no_part)) (omega (arith, z, l1, k1)))

pub word1 : (y : Keyword) (h : Head) → Some h ≡ form_of y → IsShaped h → 0 ∷ [] ≡ shape h → number_of (Plain h) ≡ 0 → Acts (Word y ∷ Term ∷ []) meant.worded Term
word1 y h e i q z p w _ (next (a_word l1) (next (a_term {t = s2} t2 l2) end k2) k1) =
    subst (λ o. Made Term w (of_word p o (s2 ∷ []))) e (a_term (plain i (subst (λ ns. AllWritten ns (parts (s2 ∷ []))) q (one_part refl t2 no_part))) (omega (arith, z, l2, k2, l1, k1)))

pub word2 : (y : Keyword) (h : Head) → Some h ≡ form_of y → IsShaped h → 0 ∷ 0 ∷ [] ≡ shape h → number_of (Plain h) ≡ 0 → Acts (Word y ∷ Term ∷ Term ∷ []) meant.worded Term
word2 y h e i q z p w _ (next (a_word l1) (next (a_term {t = s2} t2 l2) (next (a_term {t = s3} t3 l3) end k3) k2) k1) =
    subst (λ o. Made Term w (of_word p o (s2 ∷ s3 ∷ []))) e (a_term (plain i (subst (λ ns. AllWritten ns (parts (s2 ∷ s3 ∷ []))) q (one_part refl t2 (one_part refl t3 no_part)))) (omega (arith, z, l3, k3, l2, k2, l1, k1)))

pub word3 : (y : Keyword) (h : Head) → Some h ≡ form_of y → IsShaped h → 0 ∷ 0 ∷ 0 ∷ [] ≡ shape h → number_of (Plain h) ≡ 0 → Acts (Word y ∷ Term ∷ Term ∷ Term ∷ []) meant.worded Term
word3 y h e i q z p w _ (next (a_word l1) (next (a_term {t = s2} t2 l2) (next (a_term {t = s3} t3 l3) (next (a_term {t = s4} t4 l4) end k4) k3) k2) k1) =
    subst (λ o. Made Term w (of_word p o (s2 ∷ s3 ∷ s4 ∷ []))) e (a_term (plain i (subst (λ ns. AllWritten ns (parts (s2 ∷ s3 ∷ s4 ∷ []))) q (one_part refl t2 (one_part refl t3 (one_part refl t4 no_part))))) (omega (arith, z, l4, k4, l3, k3, l2, k2, l1, k1)))

pub word4 : (y : Keyword) (h : Head) → Some h ≡ form_of y → IsShaped h → 0 ∷ 0 ∷ 0 ∷ 0 ∷ [] ≡ shape h → number_of (Plain h) ≡ 0 → Acts (Word y ∷ Term ∷ Term ∷ Term ∷ Term ∷ []) meant.worded Term
word4 y h e i q z p w _ (next (a_word l1) (next (a_term {t = s2} t2 l2) (next (a_term {t = s3} t3 l3) (next (a_term {t = s4} t4 l4) (next (a_term {t = s5} t5 l5) end k5) k4) k3) k2) k1) =
    subst (λ o. Made Term w (of_word p o (s2 ∷ s3 ∷ s4 ∷ s5 ∷ []))) e (a_term (plain i (subst (λ ns. AllWritten ns (parts (s2 ∷ s3 ∷ s4 ∷ s5 ∷ []))) q (one_part refl t2 (one_part refl t3 (one_part refl t4 (one_part refl t5 no_part)))))) (omega (arith, z, l5, k5, l4, k4, l3, k3, l2, k2, l1, k1)))
