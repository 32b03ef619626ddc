-- What written forms become once their names are numbers, part by part.
use Rattle.std.proofs.Common.{◌≡◌, refl, ap, ◌∙◌, ℕ, List, [], ◌∷◌, length, Some}
use Rattle.cf_base.specs.declared.at.At.{At}
use Rattle.cf_tree.specs.declared.heads.Head.{Head}
use Rattle.cf_tree.specs.Tree.{Binder, Name, Named, Plain, Variable, DataAt, ConAt, Tree, tree, Trees, none, part, branch}
use Rattle.cf_term.specs.Core.{Tm, var, node, Tms, nil, cons, Branch, DataH, ConH}
use Rattle.cf_parse.specs.Meaning.{form, parts}
use Rattle.cf_elab.specs.Core.{resolve, resolve_all}
use Rattle.cf_elab.specs.Forms.{formed}
use Rattle.cf_elab.specs.Resolving.{As, and_then, or_unknown, pure}
use Rattle.cf_elab.specs.Scope.{Globals, ctor_of, type_of, under, variable_of}
use Rattle.cf_elab.specs.declared.numbers.CtorNumber.{CtorNumber}

module _ (g : Globals) where
  -- under these local variables the tree becomes this term, with no hole
  abbrev pub Is : List Binder → Tree → Tm → Type 0
  Is ls t u = (n : ℕ) → resolve g ls t n ≡ As u n

  abbrev pub AreAll : List Binder → Trees → List Branch → Tms → Type 0
  AreAll ls ts bs us = (n : ℕ) → resolve_all g ls ts n ≡ As (bs, us) n

  pub are_none : (ls : List Binder) → AreAll ls none [] nil
  are_none ls n = refl

  pub are_part : (ls bs : List Binder) (t : Tree) (ts : Trees) (cs : List Branch) (u : Tm) (us : Tms) → Is (under bs ls) t u → AreAll ls ts cs us → AreAll ls (part bs t ts) cs (cons u us)
  are_part ls bs t ts cs u us h k n =
      ap (λ z. and_then z (λ v i. and_then (resolve_all g ls ts i) (λ r. pure (r.0, cons v r.1)))) (h n)
      ∙ ap (λ z. and_then z (λ r. pure (r.0, cons u r.1))) (k n)

  pub are_branch : (ls bs : List Binder) (c : Named) (t : Tree) (ts : Trees) (k : CtorNumber) (b : Branch) (cs : List Branch) (u : Tm) (us : Tms) → ctor_of g c.name ≡ Some k → k.data_type ≡ b.type → k.ctor ≡ b.ctor → length bs ≡ b.names → Is (under bs ls) t u → AreAll ls ts cs us → AreAll ls (branch c bs t ts) (b ∷ cs) (cons u us)
  are_branch ls bs c t ts k b cs u us e d f l h i n =
      ap (λ o. and_then (or_unknown c.at o n) (λ m j. and_then (resolve g (under bs ls) t j) (λ v j. and_then (resolve_all g ls ts j) (λ r. pure (record { type = m.data_type; ctor = m.ctor; names = length bs } ∷ r.0, cons v r.1))))) e
      ∙ ap (λ z. and_then z (λ v j. and_then (resolve_all g ls ts j) (λ r. pure (record { type = k.data_type; ctor = k.ctor; names = length bs } ∷ r.0, cons v r.1)))) (h n)
      ∙ ap (λ z. and_then z (λ r. pure (record { type = k.data_type; ctor = k.ctor; names = length bs } ∷ r.0, cons u r.1))) (i n)
      ∙ (λ j. As (record { type = d j; ctor = f j; names = l j } ∷ cs, cons u us) n)

  -- a form without names
  pub is_form : (ls : List Binder) (p : At) (h : Head) (ts : Trees) (bs : List Branch) (us : Tms) (u : Tm) → AreAll ls ts bs us → ((n : ℕ) → formed h bs us n ≡ As u n) → Is ls (tree p (Plain h) ts) u
  is_form ls p h ts bs us u k f n = ap (λ z. and_then z (λ r. formed h r.0 r.1)) (k n) ∙ f n

  pub is_variable : (ls : List Binder) (p : At) (x : Name) (i : ℕ) → variable_of g ls x ≡ Some i → Is ls (tree p (Variable x) none) (var i)
  is_variable ls p x i e n = ap (λ o. and_then (or_unknown p o n) (λ j. pure (var j))) e

  pub is_data : (ls : List Binder) (p : At) (d : Named) (ts : Trees) (t : ℕ) (us : Tms) → type_of g d.name ≡ Some t → AreAll ls ts [] us → Is ls (tree p (DataAt d) ts) (node (DataH t) us)
  is_data ls p d ts t us e k n =
      ap (λ o. and_then (or_unknown d.at o n) (λ m j. and_then (resolve_all g ls ts j) (λ r. pure (node (DataH m) r.1)))) e
      ∙ ap (λ z. and_then z (λ r. pure (node (DataH t) r.1))) (k n)

  pub is_construction : (ls : List Binder) (p : At) (c : Named) (ts : Trees) (k : CtorNumber) (t j m l : ℕ) (us : Tms) → ctor_of g c.name ≡ Some k → k.data_type ≡ t → k.ctor ≡ j → l ≡ m → AreAll ls ts [] us → Is ls (tree p (ConAt c (Some l)) ts) (node (ConH t j m) us)
  is_construction ls p c ts k t j m l us e d f q h n =
      ap (λ o. and_then (or_unknown c.at o n) (λ i x. and_then (resolve_all g ls ts x) (λ r. pure (node (ConH i.data_type i.ctor l) r.1)))) e
      ∙ ap (λ z. and_then z (λ r. pure (node (ConH k.data_type k.ctor l) r.1))) (h n)
      ∙ (λ i. As (node (ConH (d i) (f i) (q i)) us) n)

  -- parts under no binder
  pub are_one : (ls : List Binder) (t : Tree) (u : Tm) → Is ls t u → AreAll ls (parts (t ∷ [])) [] (cons u nil)
  are_one ls t u h = are_part ls [] t none [] u nil h (are_none ls)

  pub are_two : (ls : List Binder) (s t : Tree) (v u : Tm) → Is ls s v → Is ls t u → AreAll ls (parts (s ∷ t ∷ [])) [] (cons v (cons u nil))
  are_two ls s t v u k h = are_part ls [] s (parts (t ∷ [])) [] v (cons u nil) k (are_one ls t u h)

  pub are_three : (ls : List Binder) (r s t : Tree) (w v u : Tm) → Is ls r w → Is ls s v → Is ls t u → AreAll ls (parts (r ∷ s ∷ t ∷ [])) [] (cons w (cons v (cons u nil)))
  are_three ls r s t w v u j k h = are_part ls [] r (parts (s ∷ t ∷ [])) [] w (cons v (cons u nil)) j (are_two ls s t v u k h)

  pub are_four : (ls : List Binder) (q r s t : Tree) (x w v u : Tm) → Is ls q x → Is ls r w → Is ls s v → Is ls t u → AreAll ls (parts (q ∷ r ∷ s ∷ t ∷ [])) [] (cons x (cons w (cons v (cons u nil))))
  are_four ls q r s t x w v u i j k h = are_part ls [] q (parts (r ∷ s ∷ t ∷ [])) [] x (cons w (cons v (cons u nil))) i (are_three ls r s t w v u j k h)

  -- forms over so many parts
  pub is_zero : (ls : List Binder) (p : At) (h : Head) (v : Tm) → ((n : ℕ) → formed h [] nil n ≡ As v n) → Is ls (form p h []) v
  is_zero ls p h v f = is_form ls p h (parts []) [] nil v (are_none ls) f

  pub is_one : (ls : List Binder) (p : At) (h : Head) (t : Tree) (u v : Tm) → Is ls t u → ((n : ℕ) → formed h [] (cons u nil) n ≡ As v n) → Is ls (form p h (t ∷ [])) v
  is_one ls p h t u v i f = is_form ls p h (parts (t ∷ [])) [] (cons u nil) v (are_one ls t u i) f

  pub is_two : (ls : List Binder) (p : At) (h : Head) (s t : Tree) (w u v : Tm) → Is ls s w → Is ls t u → ((n : ℕ) → formed h [] (cons w (cons u nil)) n ≡ As v n) → Is ls (form p h (s ∷ t ∷ [])) v
  is_two ls p h s t w u v i j f = is_form ls p h (parts (s ∷ t ∷ [])) [] (cons w (cons u nil)) v (are_two ls s t w u i j) f

  pub is_three : (ls : List Binder) (p : At) (h : Head) (r s t : Tree) (x w u v : Tm) → Is ls r x → Is ls s w → Is ls t u → ((n : ℕ) → formed h [] (cons x (cons w (cons u nil))) n ≡ As v n) → Is ls (form p h (r ∷ s ∷ t ∷ [])) v
  is_three ls p h r s t x w u v i j k f = is_form ls p h (parts (r ∷ s ∷ t ∷ [])) [] (cons x (cons w (cons u nil))) v (are_three ls r s t x w u i j k) f

  pub is_four : (ls : List Binder) (p : At) (h : Head) (q r s t : Tree) (y x w u v : Tm) → Is ls q y → Is ls r x → Is ls s w → Is ls t u → ((n : ℕ) → formed h [] (cons y (cons x (cons w (cons u nil)))) n ≡ As v n) → Is ls (form p h (q ∷ r ∷ s ∷ t ∷ [])) v
  is_four ls p h q r s t y x w u v i j k l f = is_form ls p h (parts (q ∷ r ∷ s ∷ t ∷ [])) [] (cons y (cons x (cons w (cons u nil)))) v (are_four ls q r s t y x w u i j k l) f

  -- a part, and a part under a variable; a type, what a variable stands for under l, and a part under it
  pub is_bound : (ls : List Binder) (p : At) (h : Head) (b : Binder) (s t : Tree) (w u v : Tm) → Is ls s w → Is (b ∷ ls) t u → ((n : ℕ) → formed h [] (cons w (cons u nil)) n ≡ As v n) → Is ls (tree p (Plain h) (part [] s (part (b ∷ []) t none))) v
  is_bound ls p h b s t w u v i j f =
      is_form ls p h (part [] s (part (b ∷ []) t none)) [] (cons w (cons u nil)) v
      (are_part ls [] s (part (b ∷ []) t none) [] w (cons u nil) i (are_part ls (b ∷ []) t none [] u nil j (are_none ls))) f

  pub is_defined : (ls bs : List Binder) (p : At) (h : Head) (b : Binder) (r s t : Tree) (x w u v : Tm) → Is ls r x → Is (under bs ls) s w → Is (b ∷ ls) t u → ((n : ℕ) → formed h [] (cons x (cons w (cons u nil))) n ≡ As v n) → Is ls (tree p (Plain h) (part [] r (part bs s (part (b ∷ []) t none)))) v
  is_defined ls bs p h b r s t x w u v i j k f =
      is_form ls p h (part [] r (part bs s (part (b ∷ []) t none))) [] (cons x (cons w (cons u nil))) v
      (are_part ls [] r (part bs s (part (b ∷ []) t none)) [] x (cons w (cons u nil)) i
      (are_part ls bs s (part (b ∷ []) t none) [] w (cons u nil) j (are_part ls (b ∷ []) t none [] u nil k (are_none ls)))) f
