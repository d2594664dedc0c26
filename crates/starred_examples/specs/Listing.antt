-- The ten starred examples of document 01, 'Known examples', in its sequence, and answers that demand 3 must turn down.
use Rattle.std.specs.Prelude.{List, [], ◌∷◌, ℕ, pos, negsuc}
use Rattle.stop.specs.declared.Stop.{Stop}
use Rattle.starred_examples.specs.Example.{Example, planned, planned_for, barred, timed, Wrong}

-- a stop on the x axis
abbrev pub on_axis : ℕ → ℕ → Stop
on_axis x speed = record { at = pos x ∷ pos 0 ∷ pos 0 ∷ []; speed = speed; blend = 0; dwell = 0 }

-- 'x = 0, 30, 10, 20, speeds 100, rest 0'
abbrev pub four_stops : List Stop
four_stops = on_axis 0 100 ∷ on_axis 30 100 ∷ on_axis 10 100 ∷ on_axis 20 100 ∷ []

-- the ten
abbrev pub starred : List Example
starred =
    -- 'k = 0, order 0, total 0'
    planned 0 (0 ∷ []) (0 ∷ []) 0
    -- 'k = 1, entries 0→1 3, 1→0 7: 0, 1'
    ∷ planned 1 (0 ∷ 3 ∷ 7 ∷ 0 ∷ []) (0 ∷ 1 ∷ []) 3
    -- 'The same swapped: 1, 0'
    ∷ planned 1 (0 ∷ 7 ∷ 3 ∷ 0 ∷ []) (1 ∷ 0 ∷ []) 3
    -- 'Both 5: 1, 0'
    ∷ planned 1 (0 ∷ 5 ∷ 5 ∷ 0 ∷ []) (1 ∷ 0 ∷ []) 5
    -- 'k = 2, all entries 1: 3, 2, 1, 0, total 3'
    ∷ planned 2 (1 ∷ 1 ∷ 1 ∷ 1 ∷ 1 ∷ 1 ∷ 1 ∷ 1 ∷ 1 ∷ 1 ∷ 1 ∷ 1 ∷ 1 ∷ 1 ∷ 1 ∷ 1 ∷ []) (3 ∷ 2 ∷ 1 ∷ 0 ∷ []) 3
    -- 'k = 2, x = 0, 30, 10, 20, speeds 100, rest 0: 2, 3, 1, 0, total 50; unturned 60; forks 1 and 2'
    ∷ planned_for 2 four_stops (2 ∷ 3 ∷ 1 ∷ 0 ∷ []) 50 60 (1 ∷ 2 ∷ [])
    -- '0, 2, 1, 3 is not allowed'
    ∷ barred 2 (0 ∷ 2 ∷ 1 ∷ 3 ∷ [])
    -- '0, 0 is not allowed'
    ∷ barred 1 (0 ∷ 0 ∷ [])
    -- 'D = 1, speed 200', by M-100: 'the D = 1 example becomes 0'
    ∷ timed (on_axis 0 200) (on_axis 1 200) 1 0
    -- 'D = 40,000, speed 1: 4,000,000 ms'
    ∷ timed (record { at = pos 20000 ∷ pos 0 ∷ pos 0 ∷ []; speed = 1; blend = 0; dwell = 0 }) (record { at = negsuc 19999 ∷ pos 0 ∷ pos 0 ∷ []; speed = 1; blend = 0; dwell = 0 }) 40000 4000000
    ∷ []

-- answers to the 50 example that demand 3 turns down, the ones that 'A reviewer's afternoon' would put in
abbrev pub wrong_answers : List Wrong
wrong_answers =
    -- 'an order of 0, 1, 2 and up', with its total
    record { order = 0 ∷ 1 ∷ 2 ∷ 3 ∷ []; sum = 60 }
    -- 'one reversed order for all paths', with its total, and with the least one, which is not its own
    ∷ record { order = 3 ∷ 2 ∷ 1 ∷ 0 ∷ []; sum = 60 }
    ∷ record { order = 3 ∷ 2 ∷ 1 ∷ 0 ∷ []; sum = 50 }
    -- 'Solve the first half and leave the second unturned', with its total
    ∷ record { order = 2 ∷ 3 ∷ 0 ∷ 1 ∷ []; sum = 60 }
    -- 'Leave the order buffer untouched': a buffer of zeros, with the least total
    ∷ record { order = 0 ∷ 0 ∷ 0 ∷ 0 ∷ []; sum = 50 }
    -- 'Invent the total': the wanted order, with totals that are not its own
    ∷ record { order = 2 ∷ 3 ∷ 1 ∷ 0 ∷ []; sum = 49 }
    ∷ record { order = 2 ∷ 3 ∷ 1 ∷ 0 ∷ []; sum = 0 }
    ∷ []
