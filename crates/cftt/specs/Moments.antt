-- What is known of the streams at one moment.
use Rattle.std.specs.Prelude.{◌≡◌, ◌⊎◌, ℕ, ◌+◌, ◌≤◌, List, length, Option}
use Rattle.std.specs.Io.KnownBytes.{Appends, Consumes}
use Rattle.cf_base.specs.Causes.{Rose, GivesAll, TakesFront}

-- of the input and of the output
pub record Ends : Type 0 where
  pub left : Option (List ℕ)
  pub read_faults : ℕ
  pub taken : Option (List ℕ)
  pub write_faults : ℕ

-- of the error stream
pub record Errors : Type 0 where
  pub taken : Option (List ℕ)
  pub faults : ℕ

-- of all three, with the input itself
pub record Moment (S : Type 0) : Type 0 where
  pub input : S
  pub ends : Ends
  pub errors : Errors

-- the input, of at most so many bytes, was read to its end, and this is all of it
pub record HasInput (most : ℕ) (before after : Ends) (input : List ℕ) : Type 0 where
  pub all : GivesAll before.left after.left input
  pub short : length input ≤ most

-- the input gave one byte more than it may have
pub record IsTooLong (most : ℕ) (before after : Ends) : Type 0 where
  pub given : List ℕ
  pub count : length given ≡ most + 1
  pub consumed : Consumes before.left after.left given

-- the whole text was taken, or a write failed and a front of it was taken
abbrev pub IsWritten : (before after : Errors) → List ℕ → Type 0
IsWritten before after text = Appends before.taken after.taken text ⊎ (Rose before.faults after.faults × TakesFront before.taken after.taken text)
