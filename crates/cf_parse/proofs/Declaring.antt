-- The actions that make declarations and programs, from values that are taken one after the other.
use Rattle.std.proofs.Common.{◌≡◌, ◌∙◌, refl, ap, sym, subst, Bool, true, false, List, [], ◌∷◌, ◌++◌, drop, map, reverse}
use Rattle.std.proofs.lemmas.List.{reverse-append}
use Rattle.cf_base.specs.declared.at.At.{At}
use Rattle.cf_tree.specs.declared.decls.CtorTree as ctors
use Rattle.cf_tree.specs.declared.decls.Decl.{Decl}
use Rattle.cf_tree.specs.Tree.{DataD, MetaD, ObjectD, Name, Tree}
use Rattle.cf_tree.specs.View.{ctors_of, decls_of}
use Rattle.cf_parse.proofs.Names.{ctors_listed, decls_listed}
use Rattle.cf_parse.proofs.Reducing.{of_five, of_four, of_three, of_two}
use Rattle.cf_parse.proofs.Taken.{named_at, terms_listed}
use Rattle.cf_parse.specs.Evaluation.{first_token, firsts}
use Rattle.cf_parse.specs.Kinds as kind
use Rattle.cf_parse.specs.Kinds.{AllFit, Fits}
use Rattle.cf_parse.specs.Meaning.{Sem, a_program, names_in}
use Rattle.cf_parse.specs.Meaning as meant
use Rattle.cf_syntax.specs.Places.{IsName, IsPlace}
use Rattle.cf_syntax.specs.Tokens.{Token}
use Rattle.cf_parse.specs.Values.{Taken, ctor_sem, decl_sem, listed, term_of}

-- a stack, its top put otherwise, and what is behind it
joined : {a b xs : List Sem} {v x : Sem} → a ≡ v ∷ b → v ≡ x → b ≡ xs → a ≡ x ∷ xs
joined e q r = e ∙ (λ i. q i ∷ r i)

-- programs
pub explicit_put : {a b c e f : List Sem} {u v w : Sem} (p : At) (ds gs : List Decl) → AllFit (kind.Token ∷ kind.Token ∷ kind.Many kind.Decl ∷ []) a → Taken kind.Token a u b → Taken kind.Token b v c → Taken (kind.Many kind.Decl) c w e → (Fits (kind.Many kind.Decl) w → w ≡ listed (map decl_sem (reverse ds))) → gs ≡ reverse ds → f ≡ a_program true false (decls_of gs) ∷ e → f ≡ meant.after_explicit p (firsts 3 a) ∷ drop 3 a
explicit_put p ds gs h q r t g o n = of_three meant.after_explicit p h q r t (λ _. refl) (λ _. refl) g n (ap (a_program true false) (ap decls_of o ∙ sym (decls_listed (reverse ds))))

pub prelude_put : {z a b c e f : List Sem} {y u v w : Sem} (p : At) (ds gs : List Decl) → AllFit (kind.Token ∷ kind.Token ∷ kind.Token ∷ kind.Many kind.Decl ∷ []) z → Taken kind.Token z y a → Taken kind.Token a u b → Taken kind.Token b v c → Taken (kind.Many kind.Decl) c w e → (Fits (kind.Many kind.Decl) w → w ≡ listed (map decl_sem (reverse ds))) → gs ≡ reverse ds → f ≡ a_program false true (decls_of gs) ∷ e → f ≡ meant.after_use p (firsts 4 z) ∷ drop 4 z
prelude_put p ds gs h x q r t g o n = of_four meant.after_use p h x q r t (λ _. refl) (λ _. refl) (λ _. refl) g n (ap (a_program false true) (ap decls_of o ∙ sym (decls_listed (reverse ds))))

pub plain_put : {a b c f : List Sem} {u v : Sem} (p : At) (d : Decl) (ds es gs : List Decl) → AllFit (kind.Decl ∷ kind.Many kind.Decl ∷ []) a → Taken kind.Decl a u b → Taken (kind.Many kind.Decl) b v c → u ≡ decl_sem d → (Fits (kind.Many kind.Decl) v → v ≡ listed (map decl_sem (reverse ds))) → es ≡ ds ++ d ∷ [] → gs ≡ reverse es → f ≡ a_program false false (decls_of gs) ∷ c → f ≡ meant.without_head p (firsts 2 a) ∷ drop 2 a
plain_put p d ds es gs h q r t g o x n = of_two meant.without_head p h q r (λ _. t) g n (ap (a_program false false) (ap decls_of (x ∙ ap reverse o ∙ reverse-append ds (d ∷ [])) ∙ sym (decls_listed (d ∷ reverse ds))))

-- declarations
pub data_put : {a b c d e f g o : List Sem} {t u v w x y name names cs made : Sem} (p : At) → AllFit (kind.Token ∷ kind.Name ∷ kind.Many kind.Name ∷ kind.Token ∷ kind.Many kind.Ctor ∷ kind.Token ∷ []) a → Taken kind.Token a t b → Taken kind.Name b u c → Taken (kind.Many kind.Name) c v d → Taken kind.Token d w e → Taken (kind.Many kind.Ctor) e x f → Taken kind.Token f y g → (Fits kind.Name u → u ≡ name) → (Fits (kind.Many kind.Name) v → v ≡ names) → (Fits (kind.Many kind.Ctor) x → x ≡ cs) → ((q : At) (k l m : Sem) → Fits kind.Name name → Fits (kind.Many kind.Name) names → made ≡ meant.data_decl q (k ∷ name ∷ names ∷ l ∷ cs ∷ m ∷ [])) → o ≡ made ∷ g → o ≡ meant.data_decl p (firsts 6 a) ∷ drop 6 a
data_put {g = g} {t = t} {w = w} {y = y} p h i1 i2 i3 i4 i5 i6 n ns cs m q =
    let j1 = i1 _ h in
    let j2 = i2 _ j1.1.1 in
    let j3 = i3 _ j2.1.1 in
    let j4 = i4 _ j3.1.1 in
    let j5 = i5 _ j4.1.1 in
    let j6 = i6 _ j5.1.1 in
    let e2 = n j2.1.0 in
    let e3 = ns j3.1.0 in
    q ∙ ap (λ z. z ∷ g) (m p t w y (subst (Fits kind.Name) e2 j2.1.0) (subst (Fits (kind.Many kind.Name)) e3 j3.1.0)) ∙ ap (λ z. meant.data_decl p (firsts 6 z) ∷ drop 6 z) (sym (joined j1.0 refl (joined j2.0 e2 (joined j3.0 e3 (joined j4.0 refl (joined j5.0 (cs j5.1.0) (joined j6.0 refl refl)))))))

pub meta_put : {a b c d e f g h o : List Sem} {s t u v w x y name type body made : Sem} (p : At) → AllFit (kind.Token ∷ kind.Name ∷ kind.Token ∷ kind.Term ∷ kind.Token ∷ kind.Term ∷ kind.Token ∷ []) a → Taken kind.Token a s b → Taken kind.Name b t c → Taken kind.Token c u d → Taken kind.Term d v e → Taken kind.Token e w f → Taken kind.Term f x g → Taken kind.Token g y h → (Fits kind.Name t → t ≡ name) → (Fits kind.Term v → v ≡ type) → (Fits kind.Term x → x ≡ body) → ((q : At) (k l m n : Sem) → Fits kind.Name name → made ≡ meant.meta_decl q (k ∷ name ∷ l ∷ type ∷ m ∷ body ∷ n ∷ [])) → o ≡ made ∷ h → o ≡ meant.meta_decl p (firsts 7 a) ∷ drop 7 a
meta_put {h = h} {s = s} {u = u} {w = w} {y = y} p fits i1 i2 i3 i4 i5 i6 i7 n ty bo m q =
    let j1 = i1 _ fits in
    let j2 = i2 _ j1.1.1 in
    let j3 = i3 _ j2.1.1 in
    let j4 = i4 _ j3.1.1 in
    let j5 = i5 _ j4.1.1 in
    let j6 = i6 _ j5.1.1 in
    let j7 = i7 _ j6.1.1 in
    let e2 = n j2.1.0 in
    q ∙ ap (λ z. z ∷ h) (m p s u w y (subst (Fits kind.Name) e2 j2.1.0)) ∙ ap (λ z. meant.meta_decl p (firsts 7 z) ∷ drop 7 z) (sym (joined j1.0 refl (joined j2.0 e2 (joined j3.0 refl (joined j4.0 (ty j4.1.0) (joined j5.0 refl (joined j6.0 (bo j6.1.0) (joined j7.0 refl refl))))))))

pub object_put : {b c d e f g h o : List Sem} {t u v w x y name type body made : Sem} (p : At) → AllFit (kind.Name ∷ kind.Token ∷ kind.Term ∷ kind.Token ∷ kind.Term ∷ kind.Token ∷ []) b → Taken kind.Name b t c → Taken kind.Token c u d → Taken kind.Term d v e → Taken kind.Token e w f → Taken kind.Term f x g → Taken kind.Token g y h → (Fits kind.Name t → t ≡ name) → (Fits kind.Term v → v ≡ type) → (Fits kind.Term x → x ≡ body) → ((q : At) (k l m : Sem) → Fits kind.Name name → made ≡ meant.object_decl q (name ∷ k ∷ type ∷ l ∷ body ∷ m ∷ [])) → o ≡ made ∷ h → o ≡ meant.object_decl p (firsts 6 b) ∷ drop 6 b
object_put {h = h} {u = u} {w = w} {y = y} p fits i2 i3 i4 i5 i6 i7 n ty bo m q =
    let j2 = i2 _ fits in
    let j3 = i3 _ j2.1.1 in
    let j4 = i4 _ j3.1.1 in
    let j5 = i5 _ j4.1.1 in
    let j6 = i6 _ j5.1.1 in
    let j7 = i7 _ j6.1.1 in
    let e2 = n j2.1.0 in
    q ∙ ap (λ z. z ∷ h) (m p u w y (subst (Fits kind.Name) e2 j2.1.0)) ∙ ap (λ z. meant.object_decl p (firsts 6 z) ∷ drop 6 z) (sym (joined j2.0 e2 (joined j3.0 refl (joined j4.0 (ty j4.1.0) (joined j5.0 refl (joined j6.0 (bo j6.1.0) (joined j7.0 refl refl)))))))

pub parameter_put : {a b c d e f o : List Sem} {t u v w x name : Sem} (p : At) → AllFit (kind.Token ∷ kind.Name ∷ kind.Token ∷ kind.Word 0 ∷ kind.Token ∷ []) a → Taken kind.Token a t b → Taken kind.Name b u c → Taken kind.Token c v d → Taken (kind.Word 0) d w e → Taken kind.Token e x f → (Fits kind.Name u → u ≡ name) → o ≡ name ∷ f → o ≡ meant.second p (firsts 5 a) ∷ drop 5 a
parameter_put p h i1 i2 i3 i4 i5 n q = of_five meant.second p h i1 i2 i3 i4 i5 (λ _. refl) n (λ _. refl) (λ _. refl) (λ _. refl) q refl

pub constructor_put : {a b c d e o : List Sem} {t u v w name fields made : Sem} (p : At) → AllFit (kind.Name ∷ kind.Token ∷ kind.Many kind.Term ∷ kind.Token ∷ []) a → Taken kind.Name a t b → Taken kind.Token b u c → Taken (kind.Many kind.Term) c v d → Taken kind.Token d w e → (Fits kind.Name t → t ≡ name) → (Fits (kind.Many kind.Term) v → v ≡ fields) → ((q : At) (k l : Sem) → Fits kind.Name name → made ≡ meant.a_ctor q (name ∷ k ∷ fields ∷ l ∷ [])) → o ≡ made ∷ e → o ≡ meant.a_ctor p (firsts 4 a) ∷ drop 4 a
constructor_put {e = e} {u = u} {w = w} p h i1 i2 i3 i4 n fs m q =
    let j1 = i1 _ h in
    let j2 = i2 _ j1.1.1 in
    let j3 = i3 _ j2.1.1 in
    let j4 = i4 _ j3.1.1 in
    let e1 = n j1.1.0 in
    q ∙ ap (λ z. z ∷ e) (m p u w (subst (Fits kind.Name) e1 j1.1.0)) ∙ ap (λ z. meant.a_ctor p (firsts 4 z) ∷ drop 4 z) (sym (joined j1.0 e1 (joined j2.0 refl (joined j3.0 (fs j3.1.0) (joined j4.0 refl refl)))))

-- what they make of the name's token
pub data_is : (b : Bool) (ks : List Token) (at : At) (x : Name) → IsPlace b ks at → IsName ks x → (ns : Sem) (qs : List Name) (cs gs : List (ctors.CtorTree)) → (Fits (kind.Many kind.Name) ns → qs ≡ names_in ns) → gs ≡ cs → (p : At) (k l m : Sem) → Fits kind.Name (first_token b ks) → Fits (kind.Many kind.Name) ns → meant.decl (DataD (record { at = at; name = x }) qs (ctors_of gs)) ≡ meant.data_decl p (k ∷ first_token b ks ∷ ns ∷ l ∷ listed (map ctor_sem cs) ∷ m ∷ [])
data_is b ks at x q r ns qs cs gs n e p k l m f g =
    let d = ap ctors_of e ∙ sym (ctors_listed cs) in
    (λ i. meant.decl (DataD (record { at = at; name = x }) (n g i) (d i))) ∙ ap (λ t. meant.data_decl p (k ∷ t ∷ ns ∷ l ∷ listed (map ctor_sem cs) ∷ m ∷ [])) (sym (named_at b ks q r f))

pub meta_is : (b : Bool) (ks : List Token) (at : At) (x : Name) → IsPlace b ks at → IsName ks x → (a t c u : Tree) → a ≡ c → t ≡ u → (p : At) (k l m n : Sem) → Fits kind.Name (first_token b ks) → meant.decl (MetaD (record { at = at; name = x }) a t) ≡ meant.meta_decl p (k ∷ first_token b ks ∷ l ∷ term_of c ∷ m ∷ term_of u ∷ n ∷ [])
meta_is b ks at x q r a t c u e g p k l m n f = (λ i. meant.decl (MetaD (record { at = at; name = x }) (e i) (g i))) ∙ ap (λ v. meant.meta_decl p (k ∷ v ∷ l ∷ term_of c ∷ m ∷ term_of u ∷ n ∷ [])) (sym (named_at b ks q r f))

pub object_is : (b : Bool) (ks : List Token) (at : At) (x : Name) → IsPlace b ks at → IsName ks x → (a t c u : Tree) → a ≡ c → t ≡ u → (p : At) (k l m : Sem) → Fits kind.Name (first_token b ks) → meant.decl (ObjectD (record { at = at; name = x }) a t) ≡ meant.object_decl p (first_token b ks ∷ k ∷ term_of c ∷ l ∷ term_of u ∷ m ∷ [])
object_is b ks at x q r a t c u e g p k l m f = (λ i. meant.decl (ObjectD (record { at = at; name = x }) (e i) (g i))) ∙ ap (λ v. meant.object_decl p (v ∷ k ∷ term_of c ∷ l ∷ term_of u ∷ m ∷ [])) (sym (named_at b ks q r f))

pub ctor_is : (b : Bool) (ks : List Token) (at : At) (x : Name) → IsPlace b ks at → IsName ks x → (ts us : List Tree) → us ≡ ts → (p : At) (k l : Sem) → Fits kind.Name (first_token b ks) → meant.ctor (record { ctor = record { at = at; name = x }; fields = us }) ≡ meant.a_ctor p (first_token b ks ∷ k ∷ listed (map term_of ts) ∷ l ∷ [])
ctor_is b ks at x q r ts us e p k l f = ap (λ vs. meant.ctor (record { ctor = record { at = at; name = x }; fields = vs })) (e ∙ sym (terms_listed ts)) ∙ ap (λ u. meant.a_ctor p (u ∷ k ∷ listed (map term_of ts) ∷ l ∷ [])) (sym (named_at b ks q r f))
