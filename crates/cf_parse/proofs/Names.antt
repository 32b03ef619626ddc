-- Names that stand for tokens, and lists of names.
use Rattle.std.proofs.Common.{◌≡◌, ◌∙◌, refl, ap, sym, subst, ℕ, Bool, List, [], ◌∷◌, ◌++◌, map, reverse, append_assoc, string_bytes}
use Rattle.std.proofs.lemmas.List.{reverse-append}
use Rattle.cf_tree.specs.declared.decls.CtorTree as ctors
use Rattle.cf_tree.specs.declared.decls.Decl.{Decl}
use Rattle.cf_tree.specs.View.{Text, ctors_of, decls_of, names_of}
use Rattle.cf_parse.proofs.Taken.{name_class}
use Rattle.cf_parse.specs.Evaluation.{first_token, next_text}
use Rattle.cf_parse.specs.Kinds as kind
use Rattle.cf_parse.specs.Kinds.{Fits, Kind, more}
use Rattle.cf_parse.specs.Meaning.{Sem, also, ctors_in, decls_in, names_in}
use Rattle.cf_syntax.specs.Places.{IsName}
use Rattle.cf_syntax.specs.Source.{from}
use Rattle.cf_syntax.specs.Tokens.{Token}
use Rattle.cf_syntax.specs.declared.source.Source.{Source}
use Rattle.cf_parse.specs.Values.{ctor_sem, decl_sem, listed, token_of}

-- the lists of meanings of items are the lists of these items
pub ctors_listed : (cs : List (ctors.CtorTree)) → ctors_in (listed (map ctor_sem cs)) ≡ ctors_of cs
ctors_listed [] = refl
ctors_listed (c ∷ cs) = λ i. ctors_of (c ∷ []) ++ ctors_listed cs i

pub decls_listed : (ds : List Decl) → decls_in (listed (map decl_sem ds)) ≡ decls_of ds
decls_listed [] = refl
decls_listed (d ∷ ds) = λ i. decls_of (d ∷ []) ++ decls_listed ds i

-- the bytes of a name token
name_text : (b : Bool) (ks : List Token) (x : List ℕ) → Fits kind.Name (first_token b ks) → IsName ks x → x ≡ next_text ks
name_text b [] x h r = elim h [ ]
name_text b (k ∷ ks) x h r =
    let c = name_class h in
    r k ks c.0 refl c.1

parted : {j : Kind} {x xs : Sem} → Fits (kind.Many j) (also x xs) → Fits j x × Fits (kind.Many j) xs
parted (more f g) = (f, g)

names_push : (xs : List Text) (x : Text) → names_of (xs ++ x ∷ []) ≡ names_of xs ++ string_bytes x ∷ []
names_push [] x = refl
names_push (y ∷ xs) x = ap (λ l. string_bytes y ∷ l) (names_push xs x)

-- names with these numbers, which have the last one first
abbrev pub spelled : Source → List ℕ → Sem
spelled s ns = listed (map (token_of s) (reverse ns))

-- one name more is written
pub names_more : (s : Source) (whole : List (List ℕ)) (made longer : List Text) (t : Text) (ns ms : List ℕ) (n : ℕ) → longer ≡ made ++ t ∷ [] → ns ≡ ms ++ n ∷ [] → IsName (from s n) (string_bytes t) → Fits (kind.Many kind.Name) (spelled s ns) × (names_of made ++ names_in (spelled s ns) ≡ whole) → Fits (kind.Many kind.Name) (spelled s ms) × (names_of longer ++ names_in (spelled s ms) ≡ whole)
names_more s whole made longer t ns ms n l e r h =
    let q : spelled s ns ≡ also (token_of s n) (spelled s ms) = ap (λ xs. listed (map (token_of s) xs)) (ap reverse e ∙ reverse-append ms (n ∷ [])) in
    let f = parted (subst (Fits (kind.Many kind.Name)) q h.0) in
    let x = name_text s.prelude (from s n) (string_bytes t) f.0 r in
    (f.1, ap (λ xs. names_of xs ++ names_in (spelled s ms)) l ∙ ap (λ xs. xs ++ names_in (spelled s ms)) (names_push made t) ∙ append_assoc (names_of made) (string_bytes t ∷ []) (names_in (spelled s ms)) ∙ (λ i. names_of made ++ x i ∷ names_in (spelled s ms)) ∙ sym (ap (λ v. names_of made ++ names_in v) q) ∙ h.1)
