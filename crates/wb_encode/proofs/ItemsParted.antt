-- Each spelling of types, limits, globals, exports and bodies consists of the spellings of their parts: Items the other way round.
use Rattle.std.proofs.Common.{◌≡◌, ℕ, zero, suc, ◌+◌, ◌^◌, Bool, true, false, List, [], ◌∷◌, ◌++◌, length, Option, Some, None, refl, sym, ap, ◌∙◌, subst, append-nil, append_assoc, ◌⊎◌, inl, inr}
use Rattle.std.specs.Prelude.{nat_lt}
use Rattle.std.specs.Int.{from_bool}
use Rattle.wb_syntax.specs.declared.syntax.NumType.{NumType}
use Rattle.wb_syntax.specs.declared.syntax.NumType.TheVariants.{I32, I64}
use Rattle.wb_syntax.specs.declared.syntax.Instr.{Instr}
use Rattle.wb_syntax.specs.declared.syntax.FuncType.{FuncType}
use Rattle.wb_syntax.specs.declared.syntax.LocalRun.{LocalRun}
use Rattle.wb_syntax.specs.declared.syntax.Limits.{Limits}
use Rattle.wb_syntax.specs.declared.syntax.Global.{Global}
use Rattle.wb_syntax.specs.declared.syntax.Exported.{Exported}
use Rattle.wb_syntax.specs.declared.syntax.Exported.TheVariants.{Func as AFunc, Memory as AMemory, Global as AGlobal}
use Rattle.wb_syntax.specs.declared.syntax.Export.{Export}
use Rattle.wb_syntax.specs.Grammar.{Grammar, Splits, case, index, followed, mapped, behind, vec}
use Rattle.wb_syntax.specs.Binary.{value_types, value_type, block_types, block_type, results, func_type, limit_forms, limits, mutabilities, mutability, global, any_byte, name, export_kinds, exported, export, instr, Each, expression, local_runs, Coded, code}
use Rattle.wb_encode.specs.Appended.{EachSpelled, VecSpelled, SizedSpelled}
use Rattle.wb_encode.specs.Encodable.{SpellsRun}
use Rattle.wb_encode.specs.Shortest.{IsShortest}
use Rattle.wb_encode.proofs.Shorter.{alone}
use Rattle.wb_encode.proofs.Appending.{Behind}
use Rattle.wb_encode.proofs.Items.{contents, tested, flag_is, GlobalParts}
use Rattle.wb_encode.proofs.Parted.{some_is, mapped_parts, vec_parts, sized_parts, IsOneOf, one_of_these}

-- ---- single bytes

one_byte : (bytes rest : List ℕ) (b k : ℕ) → bytes ≡ b ∷ rest → b ≡ k → rest ≡ [] → bytes ≡ k ∷ []
one_byte bytes rest b k e f g = e ∙ (λ i. f i ∷ g i)

flag_case : (m : Bool) (b : ℕ) (bytes rest : List ℕ) → bytes ≡ b ∷ rest → IsOneOf mutabilities b m rest → bytes ≡ from_bool m ∷ []
flag_case m b bytes rest e (inl h) = one_byte bytes rest b (from_bool m) e (h.0 ∙ sym (ap from_bool h.1.0)) h.1.1
flag_case m b bytes rest e (inr (inl h)) = one_byte bytes rest b (from_bool m) e (h.0 ∙ sym (ap from_bool h.1.0)) h.1.1
flag_case m b bytes rest e (inr (inr h)) = absurd h

pub flag_shortest : (m : Bool) (flag : ℕ) → flag ≡ from_bool m → IsShortest (mutability.Is m) (flag ∷ [])
flag_shortest m flag e = subst (λ (k : ℕ). IsShortest (mutability.Is m) (k ∷ [])) (sym e)
    (alone (from_bool m ∷ []) (flag_is m) (λ other h. flag_case m h.0 other h.1 h.2 (one_of_these mutabilities h.0 m h.1 h.3)))

-- ---- types and limits

no_results : (n : ℕ) (back : List ℕ) → (results n).Is None back → (n ≡ 0) × (back ≡ [])
no_results zero back h = (refl, h.1)
no_results (suc zero) back h = let e = (mapped_parts Some value_type None back h).1 in cc
no_results (suc (suc n)) back h = absurd h

pub no_result_parts : (bytes : List ℕ) → (followed index results).Is None bytes → index.Is 0 bytes
no_result_parts bytes h =
    let s = h.1 in
    let r = no_results h.0 s.1 s.3 in
    let same : bytes ≡ s.0 = s.4 ∙ ap (λ back. s.0 ++ back) r.1 ∙ append-nil s.0 in
    subst (λ (n : ℕ). index.Is n bytes) r.0 (subst (λ (bs : List ℕ). index.Is h.0 bs) (sym same) s.2)

one_results : (n : ℕ) (t : NumType) (back : List ℕ) → (results n).Is (Some t) back → (n ≡ 1) × value_type.Is t back
one_results zero t back h = let e = h.0 in cc
one_results (suc zero) t back h =
    let m = mapped_parts Some value_type (Some t) back h in
    (refl, subst (λ (u : NumType). value_type.Is u back) (sym (some_is t m.0 m.1)) m.2)
one_results (suc (suc n)) t back h = absurd h

pub one_result_parts : (t : NumType) (bytes : List ℕ) → (followed index results).Is (Some t) bytes → Splits bytes (index.Is 1) (value_type.Is t)
one_result_parts t bytes h =
    let s = h.1 in
    let r = one_results h.0 t s.1 s.3 in
    (s.0, s.1, subst (λ (n : ℕ). index.Is n s.0) r.0 s.2, r.1, s.4)

-- one case behind its byte
only_case : {A : Type 0} (k b : ℕ) (g : Grammar A) (x : A) (bytes rest : List ℕ) → bytes ≡ b ∷ rest → IsOneOf (case k g ∷ []) b x rest → Behind k (g.Is x) bytes
only_case k b g x bytes rest e (inl h) = (rest, e ∙ ap (λ n. n ∷ rest) h.0, h.1)
only_case k b g x bytes rest e (inr h) = absurd h

pub behind_parts : {A : Type 0} (k : ℕ) (g : Grammar A) (x : A) (bytes : List ℕ) → (behind k g).Is x bytes → Behind k (g.Is x) bytes
behind_parts k g x bytes h = only_case k h.0 g x bytes h.1 h.2 (one_of_these (case k g ∷ []) h.0 x h.1 h.3)

abbrev pub TypeParts : FuncType → List ℕ → Type 0
TypeParts t rest = Splits rest (VecSpelled value_type.Is t.params) ((followed index results).Is t.result)

pub func_type_parts : (t : FuncType) (bytes : List ℕ) → func_type.Is t bytes → Behind 0x60 (TypeParts t) bytes
func_type_parts t bytes h =
    let all : Grammar (Option NumType) = followed index results in
    let b = behind_parts 0x60 (followed (vec value_type) (λ ps. mapped (λ r. record { params = ps; result = r }) all)) t bytes h in
    let params : List NumType = b.2.0 in
    let s = b.2.1 in
    let m = mapped_parts (λ (r : Option NumType). record { params = params; result = r }) all t s.1 s.3 in
    let v = vec_parts value_type params s.0 s.2 in
    (b.0, b.1, (s.0, s.1, subst (λ (ps : List NumType). VecSpelled value_type.Is ps s.0) (sym (ap (λ (u : FuncType). u.params) m.1)) v, subst (λ (r : Option NumType). all.Is r s.1) (sym (ap (λ (u : FuncType). u.result) m.1)) m.2, s.4))

-- the least size alone, or both
abbrev LimitsCase : Limits → ℕ → List ℕ → Type 0
LimitsCase l b rest = ((b ≡ 0) × (l.max ≡ None) × index.Is l.min rest) ⊎ ((b ≡ 1) × (k : ℕ) × (l.max ≡ Some k) × Splits rest (index.Is l.min) (index.Is k))

limits_case : (l : Limits) (b : ℕ) (rest : List ℕ) → IsOneOf limit_forms b l rest → LimitsCase l b rest
limits_case l b rest (inl h) =
    let m = mapped_parts (λ (n : ℕ). record { min = n; max = None }) index l rest h.1 in
    inl (h.0, ap (λ (j : Limits). j.max) m.1, subst (λ (n : ℕ). index.Is n rest) (sym (ap (λ (j : Limits). j.min) m.1)) m.2)
limits_case l b rest (inr (inl h)) =
    let n : ℕ = h.1.0 in
    let s = h.1.1 in
    let m = mapped_parts (λ (k : ℕ). record { min = n; max = Some k }) index l s.1 s.3 in
    inr (h.0, m.0, ap (λ (j : Limits). j.max) m.1, (s.0, s.1, subst (λ (k : ℕ). index.Is k s.0) (sym (ap (λ (j : Limits). j.min) m.1)) s.2, m.2, s.4))
limits_case l b rest (inr (inr h)) = absurd h

least_case : (l : Limits) (b : ℕ) (bytes rest : List ℕ) → bytes ≡ b ∷ rest → l.max ≡ None → LimitsCase l b rest → Behind 0 (index.Is l.min) bytes
least_case l b bytes rest e none (inl h) = (rest, e ∙ ap (λ k. k ∷ rest) h.0, h.2)
least_case l b bytes rest e none (inr h) = let some = h.2 in cc

both_case : (l : Limits) (k b : ℕ) (bytes rest : List ℕ) → bytes ≡ b ∷ rest → l.max ≡ Some k → LimitsCase l b rest → Behind 1 (λ back. Splits back (index.Is l.min) (index.Is k)) bytes
both_case l k b bytes rest e some (inl h) = let none = h.1 in cc
both_case l k b bytes rest e some (inr h) =
    let s = h.3 in
    let same : h.1 ≡ k = sym (some_is k h.1 (sym some ∙ h.2)) in
    (rest, e ∙ ap (λ n. n ∷ rest) h.0, (s.0, s.1, s.2, subst (λ (n : ℕ). index.Is n s.1) same s.3, s.4))

pub least_parts : (l : Limits) (bytes : List ℕ) → l.max ≡ None → limits.Is l bytes → Behind 0 (index.Is l.min) bytes
least_parts l bytes none h = least_case l h.0 bytes h.1 h.2 none (limits_case l h.0 h.1 (one_of_these limit_forms h.0 l h.1 h.3))

pub both_parts : (l : Limits) (k : ℕ) (bytes : List ℕ) → l.max ≡ Some k → limits.Is l bytes → Behind 1 (λ back. Splits back (index.Is l.min) (index.Is k)) bytes
both_parts l k bytes some h = both_case l k h.0 bytes h.1 h.2 some (limits_case l h.0 h.1 (one_of_these limit_forms h.0 l h.1 h.3))

-- ---- globals and exports

each_instr_parts : (is : List Instr) (bytes : List ℕ) → Each instr is bytes → EachSpelled instr.Is is bytes
each_instr_parts [] bytes h = h
each_instr_parts (i ∷ is) bytes h = (h.0, h.1, h.2, each_instr_parts is h.1 h.3, h.4)

pub expression_parts : (is : List Instr) (bytes : List ℕ) → expression.Is is bytes → EachSpelled instr.Is is bytes
expression_parts is bytes h = each_instr_parts is bytes h.1

pub global_parts : (g : Global) (bytes : List ℕ) → global.Is g bytes → GlobalParts g bytes
global_parts g bytes h =
    let t : NumType = h.0 in
    let s = h.1 in
    let flag : Bool = s.3.0 in
    let r = s.3.1 in
    let m = mapped_parts (λ (init : List Instr). record { ty = t; mutable = flag; init = init }) expression g r.1 r.3 in
    let same = sym m.1 in (
      s.0,
      s.1,
      subst (λ (u : NumType). value_type.Is u s.0) (ap (λ (x : Global). x.ty) same) s.2,
      (
        r.0,
        r.1,
        subst (λ (u : Bool). mutability.Is u r.0) (ap (λ (x : Global). x.mutable) same) r.2,
        subst (λ (is : List Instr). EachSpelled instr.Is is r.1) (ap (λ (x : Global). x.init) same) (expression_parts m.0 r.1 m.2),
        r.4,
      ),
      s.4,
    )

byte_case : (b c : ℕ) (bytes : List ℕ) → any_byte.Is b bytes → bytes ≡ b ∷ []
byte_case b c bytes h = one_byte bytes h.1 h.0 b h.2 (sym h.3.0) h.3.1

each_byte_parts : (bs bytes : List ℕ) → EachSpelled any_byte.Is bs bytes → bytes ≡ bs
each_byte_parts [] bytes h = h
each_byte_parts (b ∷ bs) bytes h = h.4 ∙ ap (λ front. front ++ h.1) (byte_case b b h.0 h.2) ∙ ap (λ back. b ∷ back) (each_byte_parts bs h.1 h.3)

pub name_parts : (bs bytes : List ℕ) → name.Is bs bytes → Splits bytes (index.Is (length bs)) (λ back. back ≡ bs)
name_parts bs bytes h =
    let s = h.1 in
    let named : bs ≡ h.0 = s.3.1 in
    let v : VecSpelled any_byte.Is bs s.0 = subst (λ (xs : List ℕ). VecSpelled any_byte.Is xs s.0) (sym named) (vec_parts any_byte h.0 s.0 s.2) in
    (v.0, v.1, v.2, each_byte_parts bs v.1 v.3, s.4 ∙ ap (λ back. s.0 ++ back) s.3.2 ∙ append-nil s.0 ∙ v.4)

kind_of : Exported → ℕ
kind_of (AFunc f) = 0
kind_of (AMemory x) = 2
kind_of (AGlobal x) = 3

number_of : Exported → ℕ
number_of (AFunc f) = f
number_of (AMemory x) = x
number_of (AGlobal x) = x

kind_case : (make : ℕ → Exported) (k : ℕ) (w : Exported) (b : ℕ) (bytes rest : List ℕ) → ((n : ℕ) → kind_of (make n) ≡ k) → ((n : ℕ) → number_of (make n) ≡ n) → bytes ≡ b ∷ rest → b ≡ k → (mapped make index).Is w rest → Behind (kind_of w) (index.Is (number_of w)) bytes
kind_case make k w b bytes rest kind number e f h =
    let m = mapped_parts make index w rest h in
    (rest, e ∙ ap (λ n. n ∷ rest) (f ∙ sym (kind m.0) ∙ sym (ap kind_of m.1)), subst (λ (n : ℕ). index.Is n rest) (sym (number m.0) ∙ sym (ap number_of m.1)) m.2)

exported_case : (w : Exported) (b : ℕ) (bytes rest : List ℕ) → bytes ≡ b ∷ rest → IsOneOf export_kinds b w rest → Behind (kind_of w) (index.Is (number_of w)) bytes
unfolding kind_of number_of
exported_case w b bytes rest e (inl h) = kind_case AFunc 0 w b bytes rest (λ n. refl) (λ n. refl) e h.0 h.1
exported_case w b bytes rest e (inr (inl h)) = absurd h.1
exported_case w b bytes rest e (inr (inr (inl h))) = kind_case AMemory 2 w b bytes rest (λ n. refl) (λ n. refl) e h.0 h.1
exported_case w b bytes rest e (inr (inr (inr (inl h)))) = kind_case AGlobal 3 w b bytes rest (λ n. refl) (λ n. refl) e h.0 h.1
exported_case w b bytes rest e (inr (inr (inr (inr h)))) = absurd h

exported_parts : (w : Exported) (bytes : List ℕ) → exported.Is w bytes → Behind (kind_of w) (index.Is (number_of w)) bytes
exported_parts w bytes h = exported_case w h.0 bytes h.1 h.2 (one_of_these export_kinds h.0 w h.1 h.3)

pub func_parts : (f : ℕ) (w : Exported) (bytes : List ℕ) → w ≡ AFunc f → exported.Is w bytes → Behind 0 (index.Is f) bytes
unfolding kind_of number_of
func_parts f w bytes e h = exported_parts (AFunc f) bytes (subst (λ (v : Exported). exported.Is v bytes) e h)

pub memory_parts : (x : ℕ) (w : Exported) (bytes : List ℕ) → w ≡ AMemory x → exported.Is w bytes → Behind 2 (index.Is x) bytes
unfolding kind_of number_of
memory_parts x w bytes e h = exported_parts (AMemory x) bytes (subst (λ (v : Exported). exported.Is v bytes) e h)

pub number_parts : (x : ℕ) (w : Exported) (bytes : List ℕ) → w ≡ AGlobal x → exported.Is w bytes → Behind 3 (index.Is x) bytes
unfolding kind_of number_of
number_parts x w bytes e h = exported_parts (AGlobal x) bytes (subst (λ (v : Exported). exported.Is v bytes) e h)

pub export_parts : (e : Export) (bytes : List ℕ) → export.Is e bytes → Splits bytes (name.Is e.name) (exported.Is e.what)
export_parts e bytes h =
    let n : List ℕ = h.0 in
    let s = h.1 in
    let m = mapped_parts (λ (w : Exported). record { name = n; what = w }) exported e s.1 s.3 in
    let same = sym m.1 in
    (s.0, s.1, subst (λ (x : List ℕ). name.Is x s.0) (ap (λ (x : Export). x.name) same) s.2, subst (λ (w : Exported). exported.Is w s.1) (ap (λ (x : Export). x.what) same) m.2, s.4)

-- ---- bodies

run_within : (t : Bool) (x : List LocalRun) (g : Grammar (List LocalRun)) (bytes : List ℕ) → (tested t g).Is x bytes → g.Is x bytes
run_within true x g bytes h = h
run_within false x g bytes h = absurd h

pub runs_parts : (n before : ℕ) (rs : List LocalRun) (bytes : List ℕ) → (local_runs n before).Is rs bytes → (n ≡ length rs) × EachSpelled SpellsRun rs bytes
runs_parts zero before rs bytes h = (sym (ap length h.0), subst (λ (ss : List LocalRun). EachSpelled SpellsRun ss bytes) (sym h.0) h.1)
runs_parts (suc n) before rs bytes h =
    let k : ℕ = h.0 in
    let s = h.1 in
    let others : Grammar (List LocalRun) = local_runs n (before + k) in
    let run = run_within (nat_lt (before + k) (2 ^ 32)) rs (followed value_type (λ t. mapped (λ ss. record { count = k; ty = t } ∷ ss) others)) s.1 s.3 in
    let t : NumType = run.0 in
    let v = run.1 in
    let m = mapped_parts (λ (ss : List LocalRun). record { count = k; ty = t } ∷ ss) others rs v.1 v.3 in
    let r = runs_parts n (before + k) m.0 v.1 m.2 in
    let first : LocalRun = record { count = k; ty = t } in
    let all : EachSpelled SpellsRun (first ∷ m.0) bytes = (s.0 ++ v.0, v.1, (s.0, v.0, s.2, v.2, refl), r.1, s.4 ∙ ap (λ back. s.0 ++ back) v.4 ∙ sym (append_assoc s.0 v.0 v.1)) in
    (ap suc r.0 ∙ sym (ap length m.1), subst (λ (ss : List LocalRun). EachSpelled SpellsRun ss bytes) (sym m.1) all)

abbrev pub CodeParts : List LocalRun → List Instr → List ℕ → Type 0
CodeParts rs is inner = Splits inner (VecSpelled SpellsRun rs) (EachSpelled instr.Is is)

contents_parts : (rs : List LocalRun) (is : List Instr) (bytes : List ℕ) → contents.Is (rs, is) bytes → CodeParts rs is bytes
contents_parts rs is bytes h =
    let s = h.1 in
    let runs : List LocalRun = s.3.0 in
    let v = s.3.1 in
    let m = mapped_parts (λ (body : List Instr). (runs, body)) expression (rs, is) v.1 v.3 in
    let r = runs_parts h.0 0 runs v.0 v.2 in
    let vector : VecSpelled SpellsRun runs (s.0 ++ v.0) = (s.0, v.0, subst (λ (n : ℕ). index.Is n s.0) r.0 s.2, r.1, refl) in (
      s.0 ++ v.0,
      v.1,
      subst (λ (ss : List LocalRun). VecSpelled SpellsRun ss (s.0 ++ v.0)) (sym (ap (λ (c : Coded). c.0) m.1)) vector,
      subst (λ (js : List Instr). EachSpelled instr.Is js v.1) (sym (ap (λ (c : Coded). c.1) m.1)) (expression_parts m.0 v.1 m.2),
      s.4 ∙ ap (λ back. s.0 ++ back) v.4 ∙ sym (append_assoc s.0 v.0 v.1),
    )

pub code_parts : (rs : List LocalRun) (is : List Instr) (bytes : List ℕ) → code.Is (rs, is) bytes → SizedSpelled (CodeParts rs is) bytes
code_parts rs is bytes h =
    let s = sized_parts contents (rs, is) bytes h in
    (s.0, s.1, contents_parts rs is s.0 s.2)
