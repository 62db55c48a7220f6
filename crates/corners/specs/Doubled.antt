-- Routes with a point that follows an equal one, and routes that only look so, at width 3: what K6 says of them, by hand.
use Rattle.std.specs.Prelude.{true, false, List, [], ◌∷◌, pos}
use Rattle.corners.specs.Cases.{Case, refused}

unfoldable pub doubles : List Case
doubles =
    -- two equal points, open and closed
    refused false (pos 5 ∷ pos 5 ∷ pos 5 ∷ pos 5 ∷ []) (pos 3) 12
    ∷ refused true (pos 5 ∷ pos 5 ∷ pos 5 ∷ pos 5 ∷ []) (pos 3) 12
    -- the second and the third of three
    ∷ refused false (pos 0 ∷ pos 0 ∷ pos 4 ∷ pos 0 ∷ pos 4 ∷ pos 0 ∷ []) (pos 3) 12
    -- out to (4,0) and back: the last point equals the first, which counts where the route is closed
    ∷ refused false (pos 0 ∷ pos 0 ∷ pos 4 ∷ pos 0 ∷ pos 0 ∷ pos 0 ∷ []) (pos 3) 0
    ∷ refused true (pos 0 ∷ pos 0 ∷ pos 4 ∷ pos 0 ∷ pos 0 ∷ pos 0 ∷ []) (pos 3) 12
    -- neighbours on one row, and then in one column
    ∷ refused true (pos 0 ∷ pos 0 ∷ pos 4 ∷ pos 0 ∷ pos 4 ∷ pos 4 ∷ []) (pos 3) 0
    -- no point, and one: closed, it is refused with 2
    ∷ refused true [] (pos 3) 0
    ∷ refused false (pos 5 ∷ pos 5 ∷ []) (pos 3) 0
    ∷ refused true (pos 5 ∷ pos 5 ∷ []) (pos 3) 2
    -- 1, 3 and 4 are told first
    ∷ refused false (pos 5 ∷ pos 5 ∷ pos 5 ∷ pos 5 ∷ pos 5 ∷ []) (pos 3) 1
    ∷ refused false (pos 5 ∷ pos 5 ∷ pos 5 ∷ pos 5 ∷ []) (pos 65) 3
    ∷ refused false (pos 5 ∷ pos 512 ∷ pos 5 ∷ pos 512 ∷ []) (pos 3) 4
    ∷ []
