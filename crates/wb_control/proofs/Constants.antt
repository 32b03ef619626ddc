-- A run stands for the same configuration where the constants at its place are put.
use Rattle.std.proofs.Common.{◌≡◌, ℕ, suc, ◌<◌, ◌≤◌, List, length, arith, refl, sym, ap, subst, ◌∙◌}
use Rattle.std.specs.Prelude.{true, false, Option, Some, None, slice_get}
use Rattle.std.specs.Option.{option_map}
use Rattle.std.proofs.lemmas.Option.{slice_get_past}
use Rattle.wb_syntax.specs.declared.syntax.NumType.{NumType}
use Rattle.wb_syntax.specs.declared.syntax.NumType.TheVariants.{I32, I64}
use Rattle.wb_syntax.specs.declared.syntax.Instr.{Instr}
use Rattle.wb_syntax.specs.declared.syntax.Instr.TheVariants.{Block, Loop, If, Else, End, I32Const, I64Const}
use Rattle.wb_syntax.specs.declared.syntax.Func.{Func}
use Rattle.wb_syntax.specs.declared.syntax.Module.{Module}
use Rattle.wb_syntax.specs.Syntax.{Code, Then, Plain}
use Rattle.wb_syntax.specs.Numbers.{unsigned}
use Rattle.wb_syntax.specs.Nesting.{Level, put, put_instr}
use Rattle.wb_syntax.specs.Execute.{Word, word, Label as Opened, Frame, Config, settle}
use Rattle.wb_syntax.specs.Runs.{words_of}
use Rattle.wb_state.specs.declared.words.Word.{Word as Held}
use Rattle.wb_state.specs.Words.{seen}
use Rattle.wb_state.specs.Stack.{height_of, put as put_on, IsOver}
use Rattle.wb_plain.specs.Effects.{with_operands}
use Rattle.wb_control.specs.Piles.{Label}
use Rattle.wb_control.specs.Changes.{Run, Fits, words_in, at_place, with_stack}
use Rattle.wb_control.specs.Stands.{HasBody, shown, Stands}
use Rattle.wb_control.specs.Advances.{is_constant, IsSettled, constant_word, Settles}
use Rattle.wb_control.proofs.Levels.{some_same, at_func, read, goes_on, is_block, is_loop, is_if, if_of, is_else, is_end, IsRead}
use Rattle.wb_control.proofs.Controls.{moved_stands}
use Rattle.wb_control.proofs.Counting.{words_shown, words_least}
use Rattle.wb_control.proofs.Advanced.{has_instr}

none_some : {A : Type 0} (x : A) → None ≡ Some x → ⊥
none_some x e = cc

-- ---- a constant is put

simple : (i : Instr) (w : Word) → constant_word i ≡ Some w → (ks : List Level) → put_instr i ks ≡ put (Plain i) ks
simple (I32Const z) w e ks = refl
simple (I64Const z) w e ks = refl
simple _ w e ks = absurd (none_some w e)

-- behind a constant whose word is put
abbrev pub behind : Run → Word → Run
behind r w = at_place (with_stack r (put_on w r.state.operands)) (suc r.place.at)

same_shown : (r : Run) (i : Instr) (w : Word) (rest : Code) (labels : List Opened) (fs : List Frame) → constant_word i ≡ Some w → shown r (Then (Plain i) rest) labels fs ≡ shown (behind r w) rest labels fs
same_shown r (I32Const z) w rest labels fs e = ap (λ v. shown (behind r v) rest labels fs) (some_same (word I32 (unsigned I32 z)) w e)
same_shown r (I64Const z) w rest labels fs e = ap (λ v. shown (behind r v) rest labels fs) (some_same (word I64 (unsigned I64 z)) w e)
same_shown r _ w rest labels fs e = absurd (none_some w e)

put_stands : (m : Module) (r : Run) (c : Config) (f : Func) (i : Instr) (w : Word) → slice_get m.funcs r.place.func ≡ Some f → slice_get f.body r.place.at ≡ Some i → constant_word i ≡ Some w → Stands m r c → Stands m (behind r w) c
put_stands m r c f i w named there e s =
    let u = r.state.operands.below in
    let g = goes_on f.body r.place.at i s.own s.code s.labels u s.tail (simple i w e) (read f.body r.place.at i s.own s.code s.labels u s.tail there (at_func m r.place f s.own s.code s.labels u s.tail named s.inside)) in
    let shape : c ≡ shown (behind r w) g.rest s.labels s.callers = s.is ∙ ap (λ y. shown r y s.labels s.callers) g.is ∙ same_shown r i w g.rest s.labels s.callers e in
    let q = moved_stands m r f (with_operands r.state (put_on w r.state.operands)) s.own s.rest g.rest s.labels s.tail s.callers named refl refl s.split s.mark s.inside.bottom s.waits g.next in
    subst (Stands m (behind r w)) (sym shape) q

-- by the body that the function has
pub body_there : (m : Module) (r : Run) (b : List Instr) (i : Instr) → (h : HasBody m r b) → slice_get b r.place.at ≡ Some i → slice_get h.0.body r.place.at ≡ Some i
body_there m r b i h e = ap (λ x. slice_get x r.place.at) h.2 ∙ e

pub put_in : (m : Module) (r : Run) (c : Config) (b : List Instr) (i : Instr) (w : Word) → HasBody m r b → slice_get b r.place.at ≡ Some i → constant_word i ≡ Some w → Stands m r c → Stands m (behind r w) c
put_in m r c b i w h e k s = put_stands m r c h.0 i w h.1 (body_there m r b i h e) k s

-- a constant that finds no room
pub over : (m : Module) (r : Run) (c : Config) (b : List Instr) (i : Instr) (w : Word) → Fits r → HasBody m r b → slice_get b r.place.at ≡ Some i → constant_word i ≡ Some w → IsOver (put_on w r.state.operands) → Stands m r c → r.state.operands.room < words_of c
over m r c b i w f h e k o s =
    let l = words_least m (behind r w) c (put_in m r c b i w h e k s) in
    omega (arith, f.words, l, o)

-- ---- no constant is left

pub not_constant : (i : Instr) → constant_word i ≡ None → is_constant i ≡ false
not_constant (I32Const z) e = absurd (none_some (word I32 (unsigned I32 z)) (sym e))
not_constant (I64Const z) e = absurd (none_some (word I64 (unsigned I64 z)) (sym e))
not_constant _ e = refl

pub settled_at : (m : Module) (r : Run) (b : List Instr) (i : Instr) → HasBody m r b → slice_get b r.place.at ≡ Some i → is_constant i ≡ false → IsSettled m r
settled_at m r b i h e k = λ f j named there.
    let same : h.0 ≡ f = some_same h.0 f (sym h.1 ∙ named) in
    let body : b ≡ f.body = sym h.2 ∙ ap (λ (g : Func). g.body) same in
    let one : i ≡ j = some_same i j (sym e ∙ ap (λ x. slice_get x r.place.at) body ∙ there) in
    ap is_constant (sym one) ∙ k

-- code that begins with no constant adds no words
if_still : (ws : List Word) (t : Option NumType) (d : Code) (o : Option Code) (rest : Code) → length (settle ws (Then (if_of t d o) rest)).0 ≡ length ws
if_still ws t d None rest = refl
if_still ws t d (Some x) rest = refl

still : (ws : List Word) (b : List Instr) (at : ℕ) (i : Instr) (own : List Label) (code : Code) (labels : List Opened) (under tail : List Word) → is_constant i ≡ false → IsRead b at i own code labels under tail → length (settle ws code).0 ≡ length ws
still ws b at (Block t) own code labels under tail k h = ap (λ y. length (settle ws y).0) (is_block b at t own code labels under tail h).1.is
still ws b at (Loop t) own code labels under tail k h = ap (λ y. length (settle ws y).0) (is_loop b at t own code labels under tail h).1.is
still ws b at (If t) own code labels under tail k h =
    let p = is_if b at t own code labels under tail h in
    ap (λ y. length (settle ws y).0) p.1.is ∙ if_still ws t p.0.code p.0.other p.1.first.code
still ws b at Else own code labels under tail k h = ap (λ y. length (settle ws y).0) (is_else b at own code labels under tail h).none
still ws b at End own code labels under tail k h = ap (λ y. length (settle ws y).0) (is_end b at own code labels under tail h).none
still ws b at (I32Const z) own code labels under tail k h = cc
still ws b at (I64Const z) own code labels under tail k h = cc
still ws b at i own code labels under tail k h = ap (λ y. length (settle ws y).0) (goes_on b at i own code labels under tail (λ ks. refl) h).is

pub settled_words : (m : Module) (r : Run) (c : Config) (f : Func) (i : Instr) → slice_get m.funcs r.place.func ≡ Some f → slice_get f.body r.place.at ≡ Some i → is_constant i ≡ false → Stands m r c → words_of c ≡ words_in r
settled_words m r c f i named there k s =
    let u = r.state.operands.below in
    let a = read f.body r.place.at i s.own s.code s.labels u s.tail there (at_func m r.place f s.own s.code s.labels u s.tail named s.inside) in
    let e = still r.state.operands.above f.body r.place.at i s.own s.code s.labels u s.tail k a in
    let w = words_shown m r c s in
    omega (arith, e, w)

pub settles : (m : Module) (old r : Run) (c : Config) (b : List Instr) (i : Instr) → Fits r → r.state.operands.room ≡ old.state.operands.room → height_of r.state.operands ≤ r.state.operands.most → HasBody m r b → slice_get b r.place.at ≡ Some i → constant_word i ≡ None → Stands m r c → Settles m c true old r
settles m old r c b i f room l h e k s =
    let w = settled_words m r c h.0 i h.1 (body_there m r b i h e) (not_constant i k) s in
    (s, omega (arith, w, f.words, room, l))

-- no instruction is left
past_there : (m : Module) (r : Run) (b : List Instr) → (h : HasBody m r b) → length b ≤ r.place.at → slice_get h.0.body r.place.at ≡ None
past_there m r b h l = ap (λ x. slice_get x r.place.at) h.2 ∙ slice_get_past b r.place.at l

pub settled_past : (m : Module) (r : Run) (b : List Instr) → HasBody m r b → length b ≤ r.place.at → IsSettled m r
settled_past m r b h l = λ f j named there.
    let same : h.0 ≡ f = some_same h.0 f (sym h.1 ∙ named) in
    absurd (none_some j (sym (past_there m r b h l) ∙ ap (λ (g : Func). slice_get g.body r.place.at) same ∙ there))

pub never_past : (m : Module) (r : Run) (c : Config) (b : List Instr) → HasBody m r b → length b ≤ r.place.at → Stands m r c → ⊥
never_past m r c b h l s = has_instr m r c h.0 h.1 (past_there m r b h l) s

-- the body is that of the same function
pub same_body : (m : Module) (old r : Run) (b : List Instr) → r.place.func ≡ old.place.func → HasBody m old b → HasBody m r b
same_body m old r b e h = (h.0, ap (slice_get m.funcs) e ∙ h.1, h.2)

-- what is held by a constant
pub word_held : (i : Instr) (w : Held) → option_map seen (Some w) ≡ constant_word i → constant_word i ≡ Some (seen w)
word_held i w e = sym e
