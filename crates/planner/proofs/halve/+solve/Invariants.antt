use Rattle.planner.proofs.halve.+solve.Given as goal

abbrev pub decreases-solve : goal.decreases-solve
decreases-solve g l = l.m
