use Rattle.wb_encode.proofs.numbers.+push_unsigned.Given as goal

-- the number falls
abbrev pub decreases-push_unsigned : goal.decreases-push_unsigned
decreases-push_unsigned l = l.n
