-- The words of a configuration are those of the run that stands for it.
use Rattle.std.proofs.Common.{◌≡◌, ℕ, suc, ◌+◌, ◌*◌, ◌≤◌, List, [], ◌∷◌, length, map, arith, refl, ap, ◌∙◌, length-append}
use Rattle.std.specs.Prelude.{sum}
use Rattle.wb_syntax.specs.declared.syntax.Instr.{Instr}
use Rattle.wb_syntax.specs.declared.syntax.Instr.TheVariants.{I32Const, I64Const}
use Rattle.wb_syntax.specs.declared.syntax.NumType.TheVariants.{I32, I64}
use Rattle.wb_syntax.specs.declared.syntax.Module.{Module}
use Rattle.wb_syntax.specs.Numbers.{unsigned}
use Rattle.std.proofs.lemmas.List.Sums.{sum_by-cons}
use Rattle.wb_syntax.specs.Syntax.{Code, Nothing, Then, Plain, InBlock, InLoop, InIf, InIfElse}
use Rattle.wb_syntax.specs.Nesting.{Level}
use Rattle.wb_syntax.specs.Execute.{Word, word, Label as Opened, Frame, Config, settle}
use Rattle.wb_syntax.specs.Runs.{words_of_frame, words_of}
use Rattle.wb_control.specs.Piles.{Label, Caller}
use Rattle.wb_control.specs.Changes.{Run, words_in}
use Rattle.wb_control.specs.Stands.{Open, Wait, shown, Stands}

-- constants add words
settle_longer : (ws : List Word) (c : Code) → length ws ≤ length (settle ws c).0
settle_longer ws Nothing = omega arith
settle_longer ws (Then (Plain (I32Const z)) c) = let h = settle_longer (word I32 (unsigned I32 z) ∷ ws) c in omega (arith, h)
settle_longer ws (Then (Plain (I64Const z)) c) = let h = settle_longer (word I64 (unsigned I64 z) ∷ ws) c in omega (arith, h)
settle_longer ws (Then (Plain i) c) = omega arith
settle_longer ws (Then (InBlock t b) c) = omega arith
settle_longer ws (Then (InLoop t b) c) = omega arith
settle_longer ws (Then (InIf t b) c) = omega arith
settle_longer ws (Then (InIfElse t b d) c) = omega arith

-- the words below labels
abbrev pub belows : List Opened → ℕ
belows os = sum (map (λ (o : Opened). length o.below) os)

belows_more : (o : Opened) (os : List Opened) → belows (o ∷ os) ≡ length o.below + belows os
belows_more o os = sum_by-cons (λ n. n) (length o.below) (map (λ (x : Opened). length x.below) os)

frames_more : (f : Frame) (fs : List Frame) → sum (map words_of_frame (f ∷ fs)) ≡ words_of_frame f + sum (map words_of_frame fs)
frames_more f fs = sum_by-cons (λ n. n) (words_of_frame f) (map words_of_frame fs)

-- the words between the floor and those of the frames around are those below the labels
open_words : (b : List Instr) (ls : List Level) (own : List Label) (code : Code) (labels : List Opened) (under tail : List Word) → Open b ls own code labels under tail → (length labels ≡ length own) × (length under ≡ belows labels + length tail)
open_words b (l ∷ []) [] code [] under tail h = (refl, let e = ap length h.2 in omega (arith, e))
open_words b (l ∷ k ∷ ls) (a ∷ rs) code (o ∷ os) under tail h =
    let r = open_words b (k ∷ ls) rs o.after os h.1.0 tail h.1.2 in
    let e : length under ≡ length o.below + length h.1.0 = ap length h.1.1.below ∙ length-append o.below h.1.0 in
    (ap suc r.0, omega (arith, e, r.1, belows_more o os))
open_words b [] own code labels under tail h = absurd h
open_words b (l ∷ []) [] code (o ∷ os) under tail h = absurd h
open_words b (l ∷ []) (a ∷ rs) code labels under tail h = absurd h
open_words b (l ∷ k ∷ ls) [] code labels under tail h = absurd h
open_words b (l ∷ k ∷ ls) (a ∷ rs) code [] under tail h = absurd h

-- the words of the frames that wait
wait_words : (m : Module) (ks : List Caller) (ls : List Label) (under outer : List Word) (fs : List Frame) → Wait m ks ls under outer fs → length ls + length outer + 4 * length ks + length under ≡ sum (map words_of_frame fs)
wait_words m [] ls under outer [] h =
    let a = ap length h.0 in
    let b = ap length h.1 in
    let c = ap length h.2 in
    omega (arith, a, b, c)
wait_words m (k ∷ ks) ls under outer (f ∷ fs) w =
    let own = w.0 in
    let rest = w.1 in
    let beneath = w.2 in
    let tail = w.3 in
    let before = w.4 in
    let h = w.5 in
    let more = wait_words m ks rest tail before fs w.6 in
    let o = open_words _ h.inside.there own f.code f.labels beneath tail h.inside.opens in
    let a : length ls ≡ length own + length rest = ap length h.labels ∙ length-append own rest in
    let b : length under ≡ length f.stack + length beneath = ap length h.words ∙ length-append f.stack beneath in
    let c : length outer ≡ length before + length f.locals = ap length h.locals ∙ length-append before f.locals in
    let wf : words_of_frame f ≡ length f.locals + 4 + length f.labels + length f.stack + belows f.labels = refl in
    omega (arith, more, o.0, o.1, a, b, c, wf, frames_more f fs)
wait_words m [] ls under outer (f ∷ fs) h = absurd h
wait_words m (k ∷ ks) ls under outer [] h = absurd h

-- the words of a run beside those that constants add
pub words_shown : (m : Module) (r : Run) (c : Config) (s : Stands m r c) → words_of c + length r.state.operands.above ≡ words_in r + length (settle r.state.operands.above s.code).0
words_shown m r c s =
    let w = wait_words m r.callers.items s.rest s.tail r.state.locals.outer s.callers s.waits in
    let o = open_words _ s.inside.there s.own s.code s.labels r.state.operands.below s.tail s.inside.opens in
    let a : length r.labels.items ≡ length s.own + length s.rest = ap length s.split ∙ length-append s.own s.rest in
    let wf : words_of (shown r s.code s.labels s.callers) ≡ (length r.state.locals.current + 4 + length s.labels + length (settle r.state.operands.above s.code).0 + belows s.labels) + sum (map words_of_frame s.callers) = refl in
    let e : words_of (shown r s.code s.labels s.callers) + length r.state.operands.above ≡ words_in r + length (settle r.state.operands.above s.code).0 = omega (arith, w, o.0, o.1, a, wf) in
    ap (λ d. words_of d + length r.state.operands.above) s.is ∙ e

-- a configuration has no fewer words than the run
pub words_least : (m : Module) (r : Run) (c : Config) → Stands m r c → words_in r ≤ words_of c
words_least m r c s = let e = words_shown m r c s in let h = settle_longer r.state.operands.above s.code in omega (arith, e, h)
