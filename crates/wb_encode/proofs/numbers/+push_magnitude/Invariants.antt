use Rattle.wb_encode.proofs.numbers.+push_magnitude.Given as goal

-- the number falls
abbrev pub decreases-push_magnitude : goal.decreases-push_magnitude
decreases-push_magnitude l = l.m
