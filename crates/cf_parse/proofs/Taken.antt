-- What is taken from the stack of values, and what tokens there say.
use Rattle.std.proofs.Common.{◌≡◌, ◌∙◌, refl, ap, sym, subst, ℕ, Bool, true, List, [], ◌∷◌, ◌++◌, length, map, Option, Some, None, ℤ}
use Rattle.std.specs.declared.alloc.Global.{Global}
use Rattle.std.specs.declared.vec.Vec.{Vec}
use Rattle.cf_base.specs.declared.at.At.{At}
use Rattle.cf_lex.specs.declared.keywords.Keyword.{Keyword}
use Rattle.cf_grammar.specs.declared.classes.Class.{Class}
use Rattle.cf_grammar.specs.declared.classes.Class.TheVariants as class
use Rattle.cf_grammar.specs.declared.productions.Production.TheVariants as by
use Rattle.cf_tree.specs.declared.heads.Head.TheVariants as head
use Rattle.cf_tree.specs.declared.forms.Node.TheVariants as node
use Rattle.cf_tree.specs.Tree as trees
use Rattle.cf_tree.specs.Tree.{Name, Named, Tree, ConAt, part}
use Rattle.cf_tree.specs.View.{one_each, tree_of}
use Rattle.cf_parse.specs.Evaluation.{first_token, next_at, next_text, reduced}
use Rattle.cf_parse.specs.Kinds as kind
use Rattle.cf_parse.specs.Kinds.{Kind, Fits, AllFit, next, a_name, a_whole, a_natlit, a_word, atoms_of, params}
use Rattle.cf_syntax.specs.Places.{place, IsName, IsNumber, IsPlace, front}
use Rattle.cf_syntax.specs.Numbers.{whole_of, natlit_of, in_range}
use Rattle.cf_parse.specs.Meaning.{Sem, parts, terms_in}
use Rattle.cf_parse.specs.Meaning as meant
use Rattle.cf_syntax.specs.Tokens.{Token}
use Rattle.cf_parse.specs.Values.{Taken, listed, optional_brackets, term_of}

-- what was taken, told otherwise
pub retold : {j : Kind} {old new : List Sem} {v w : Sem} → Taken j old v new → (Fits j v → v ≡ w) → Taken j old w new
retold {j = j} {new = new} t e js h =
    let o = t js h in
    let q = e o.1.0 in
    (o.0 ∙ ap (λ x. x ∷ new) q, (subst (Fits j) q o.1.0, o.1.1))

-- so many values were taken, one after the other
pub one : {j : Kind} {s0 s1 : List Sem} {u : Sem} → AllFit (j ∷ []) s0 → Taken j s0 u s1 → (s0 ≡ u ∷ s1) × Fits j u
one h t = let o = t [] h in (o.0, o.1.0)

pub two : {i j : Kind} {s0 s1 s2 : List Sem} {u v : Sem} → AllFit (i ∷ j ∷ []) s0 → Taken i s0 u s1 → Taken j s1 v s2 → (s0 ≡ u ∷ v ∷ s2) × (Fits i u × Fits j v)
two {j = j} {u = u} h t r =
    let o = t (j ∷ []) h in
    let p = one o.1.1 r in
    (o.0 ∙ ap (λ s. u ∷ s) p.0, (o.1.0, p.1))

pub three : {i j k : Kind} {s0 s1 s2 s3 : List Sem} {u v w : Sem} → AllFit (i ∷ j ∷ k ∷ []) s0 → Taken i s0 u s1 → Taken j s1 v s2 → Taken k s2 w s3 → (s0 ≡ u ∷ v ∷ w ∷ s3) × (Fits i u × (Fits j v × Fits k w))
three {j = j} {k = k} {u = u} h t r q =
    let o = t (j ∷ k ∷ []) h in
    let p = two o.1.1 r q in
    (o.0 ∙ ap (λ s. u ∷ s) p.0, (o.1.0, p.1))

pub four : {i j k l : Kind} {s0 s1 s2 s3 s4 : List Sem} {u v w x : Sem} → AllFit (i ∷ j ∷ k ∷ l ∷ []) s0 → Taken i s0 u s1 → Taken j s1 v s2 → Taken k s2 w s3 → Taken l s3 x s4 → (s0 ≡ u ∷ v ∷ w ∷ x ∷ s4) × (Fits i u × (Fits j v × (Fits k w × Fits l x)))
four {j = j} {k = k} {l = l} {u = u} h t r q n =
    let o = t (j ∷ k ∷ l ∷ []) h in
    let p = three o.1.1 r q n in
    (o.0 ∙ ap (λ s. u ∷ s) p.0, (o.1.0, p.1))

pub five : {i j k l m : Kind} {s0 s1 s2 s3 s4 s5 : List Sem} {u v w x y : Sem} → AllFit (i ∷ j ∷ k ∷ l ∷ m ∷ []) s0 → Taken i s0 u s1 → Taken j s1 v s2 → Taken k s2 w s3 → Taken l s3 x s4 → Taken m s4 y s5 → (s0 ≡ u ∷ v ∷ w ∷ x ∷ y ∷ s5) × (Fits i u × (Fits j v × (Fits k w × (Fits l x × Fits m y))))
five {j = j} {k = k} {l = l} {m = m} {u = u} h t r q n f =
    let o = t (j ∷ k ∷ l ∷ m ∷ []) h in
    let p = four o.1.1 r q n f in
    (o.0 ∙ ap (λ s. u ∷ s) p.0, (o.1.0, p.1))

pub six : {i j k l m n : Kind} {s0 s1 s2 s3 s4 s5 s6 : List Sem} {u v w x y z : Sem} → AllFit (i ∷ j ∷ k ∷ l ∷ m ∷ n ∷ []) s0 → Taken i s0 u s1 → Taken j s1 v s2 → Taken k s2 w s3 → Taken l s3 x s4 → Taken m s4 y s5 → Taken n s5 z s6 → s0 ≡ u ∷ v ∷ w ∷ x ∷ y ∷ z ∷ s6
six {j = j} {k = k} {l = l} {m = m} {n = n} {u = u} h t r q a f g =
    let o = t (j ∷ k ∷ l ∷ m ∷ n ∷ []) h in
    o.0 ∙ ap (λ s. u ∷ s) (five o.1.1 r q a f g).0

pub seven : {i j k l m n o : Kind} {s0 s1 s2 s3 s4 s5 s6 s7 : List Sem} {t u v w x y z : Sem} → AllFit (i ∷ j ∷ k ∷ l ∷ m ∷ n ∷ o ∷ []) s0 → Taken i s0 t s1 → Taken j s1 u s2 → Taken k s2 v s3 → Taken l s3 w s4 → Taken m s4 x s5 → Taken n s5 y s6 → Taken o s6 z s7 → s0 ≡ t ∷ u ∷ v ∷ w ∷ x ∷ y ∷ z ∷ s7
seven {j = j} {k = k} {l = l} {m = m} {n = n} {o = o} {t = t} h r1 r2 r3 r4 r5 r6 r7 =
    let p = r1 (j ∷ k ∷ l ∷ m ∷ n ∷ o ∷ []) h in
    p.0 ∙ ap (λ s. t ∷ s) (six p.1.1 r2 r3 r4 r5 r6 r7)

pub eight : {h i j k l m n o : Kind} {s0 s1 s2 s3 s4 s5 s6 s7 s8 : List Sem} {s t u v w x y z : Sem} → AllFit (h ∷ i ∷ j ∷ k ∷ l ∷ m ∷ n ∷ o ∷ []) s0 → Taken h s0 s s1 → Taken i s1 t s2 → Taken j s2 u s3 → Taken k s3 v s4 → Taken l s4 w s5 → Taken m s5 x s6 → Taken n s6 y s7 → Taken o s7 z s8 → s0 ≡ s ∷ t ∷ u ∷ v ∷ w ∷ x ∷ y ∷ z ∷ s8
eight {i = i} {j = j} {k = k} {l = l} {m = m} {n = n} {o = o} {s = s} h r1 r2 r3 r4 r5 r6 r7 r8 =
    let p = r1 (i ∷ j ∷ k ∷ l ∷ m ∷ n ∷ o ∷ []) h in
    p.0 ∙ ap (λ l. s ∷ l) (seven p.1.1 r2 r3 r4 r5 r6 r7 r8)

-- the classes of tokens that are a name, a number, a word
pub name_class : {p : At} {c : Class} {x : Name} → Fits kind.Name (meant.token p c x) → (b : Bool) × (c ≡ class.Name b)
name_class (a_name {b = b}) = (b, refl)

whole_class : {p : At} {c : Class} {x : Name} → Fits kind.Whole (meant.token p c x) → (c ≡ class.Whole) × (in_range c x ≡ true)
whole_class (a_whole q) = (refl, q)

natlit_class : {p : At} {c : Class} {x : Name} → Fits kind.NatLit (meant.token p c x) → (c ≡ class.NatLit) × (in_range c x ≡ true)
natlit_class (a_natlit q) = (refl, q)

word_class : {p : At} {c : Class} {x : Name} {n : ℕ} → Fits (kind.Word n) (meant.token p c x) → (y : Keyword) × (c ≡ class.Word y)
word_class (a_word {y = y} q) = (y, refl)

-- how many atoms it takes
pub word_takes : {n : ℕ} {p : At} {y : Keyword} {x : Name} → Fits (kind.Word n) (meant.token p (class.Word y) x) → atoms_of y ≡ Some n
word_takes (a_word q) = q

abbrev word_or : Keyword → Class → Keyword
word_or z (class.Word y) = y
word_or z c = z

pub same_word : {y z : Keyword} → class.Word y ≡ class.Word z → y ≡ z
same_word {y = y} e = ap (word_or y) e

pub named_at : (b : Bool) (ks : List Token) {p : At} {x : Name} → IsPlace b ks p → IsName ks x → Fits kind.Name (first_token b ks) → first_token b ks ≡ meant.token p (front ks) x
named_at b [] at is h = elim h [ ]
named_at b (k ∷ ks) at is h =
    let o = name_class h in
    λ i. meant.token (sym (at k ks refl) i) k.class (sym (is k ks o.0 refl o.1) i)

pub word_at : (b : Bool) (ks : List Token) {y : Keyword} {n : ℕ} → ((z : Keyword) → front ks ≡ class.Word z → y ≡ z) → Fits (kind.Word n) (first_token b ks) → first_token b ks ≡ meant.token (place b (next_at ks)) (class.Word y) (next_text ks)
word_at b [] is h = elim h [ ]
word_at b (k ∷ ks) is h =
    let o = word_class h in
    λ i. meant.token (place b k.at) ((o.1 ∙ ap (λ y. class.Word y) (sym (is o.0 o.1))) i) k.text

pub whole_at : (b : Bool) (ks : List Token) {z : ℤ} (p : At) → IsNumber class.Whole whole_of ks z → Fits kind.Whole (first_token b ks) → meant.literal p (first_token b ks ∷ []) ≡ meant.term (meant.form p (head.Lit z) [])
whole_at b [] p is h = elim h [ ]
whole_at b (k ∷ ks) p is h =
    let o = whole_class h in
    ap (λ n. meant.term (meant.form p (head.Lit n) [])) (is k ks refl o.0 o.1)

pub natlit_at : (b : Bool) (ks : List Token) {n : ℕ} (p : At) → IsNumber class.NatLit natlit_of ks n → Fits kind.NatLit (first_token b ks) → meant.numeral p (first_token b ks ∷ []) ≡ meant.term (meant.form p (head.NatLit n) [])
natlit_at b [] p is h = elim h [ ]
natlit_at b (k ∷ ks) p is h =
    let o = natlit_class h in
    ap (λ n. meant.term (meant.form p (head.NatLit n) [])) (is k ks refl o.0 o.1)

-- lists of terms, and of parts
pub terms_listed : (ts : List Tree) → terms_in (listed (map term_of ts)) ≡ ts
terms_listed [] = refl
terms_listed (t ∷ ts) = ap (λ us. t ∷ us) (terms_listed ts)

pub parts_each : (ts : List Tree) → one_each ts trees.none ≡ parts ts
parts_each [] = refl
parts_each (t ∷ ts) = ap (λ us. part [] t us) (parts_each ts)

pub parts_more : (us ts : List Tree) → one_each us (one_each ts trees.none) ≡ parts (us ++ ts)
parts_more [] ts = parts_each ts
parts_more (u ∷ us) ts = ap (λ xs. part [] u xs) (parts_more us ts)

-- what a construction means
pub constructed : (p : At) (n : Named) (c : Class) (k l : Sem) (vs : List Sem) (ps : Option (Vec Tree Global)) (ts : Vec Tree Global) → meant.construction p (k ∷ meant.token n.at c n.name ∷ optional_brackets ps ∷ l ∷ listed (map term_of ts.items) ∷ vs) ≡ meant.term (tree_of p (node.Con n ps ts))
constructed p n c k l vs None ts = ap (λ us. meant.term (trees.tree p (ConAt n None) us)) (ap parts (terms_listed ts.items) ∙ sym (parts_each ts.items))
constructed p n c k l vs (Some us) ts =
    ap (λ xs. meant.term (trees.tree p (ConAt n (Some (length us.items))) xs)) (ap (λ xs. parts (us.items ++ xs)) (terms_listed ts.items) ∙ sym (parts_more us.items ts.items))

-- what an action makes of values that were taken takes their place
pub made : (f : List Sem → List Sem) {old mid new rest : List Sem} {v w : Sem} → new ≡ v ∷ rest → v ≡ w → old ≡ mid → w ∷ rest ≡ f mid → new ≡ f old
made f {rest = rest} e q h r = e ∙ ap (λ x. x ∷ rest) q ∙ r ∙ sym (ap f h)

pub same_reduced : (p : At) (vs : List Sem) → AllFit (params by.Same) vs → vs ≡ reduced by.Same p vs
same_reduced p _ (next h a) = refl
