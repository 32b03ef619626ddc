-- The locals of frames.
use Rattle.std.specs.Prelude.{ℕ, ◌+◌, List, [], ◌++◌, length, take, drop, map}
use Rattle.wb_syntax.specs.Execute.{Word}
use Rattle.wb_state.specs.declared.words.Word.{Word as Held}
use Rattle.wb_state.specs.Words.{seen}

-- the locals of the innermost frame, and those of the frames around it, the outermost first
pub record Frames : Type 0 where
  pub current : List Word
  pub outer : List Word
  -- for how many there is room
  pub room : ℕ

-- the locals of the frame that begins at this index, and those before it
abbrev pub frames_of : List Held → (base room : ℕ) → Frames
frames_of ws base n = record { current = map seen (drop base ws); outer = map seen (take base ws); room = n }

-- no locals
abbrev pub none : ℕ → Frames
none n = record { current = []; outer = []; room = n }

-- how many locals there are
abbrev pub count_of : Frames → ℕ
count_of f = length f.outer + length f.current

-- these locals of the innermost frame
abbrev pub with_current : Frames → List Word → Frames
with_current f ws = record f { current = ws }

-- a frame without locals inside the innermost one
abbrev pub entered : Frames → Frames
entered f = record f { current = []; outer = f.outer ++ f.current }

-- the innermost frame is left: that around it begins at this index
abbrev pub left : ℕ → Frames → Frames
left base f = record f { current = drop base f.outer; outer = take base f.outer }
