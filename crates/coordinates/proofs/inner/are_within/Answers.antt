use Rattle.std.proofs.Common.{rules, ◌≡◌, refl, ap, ◌∙◌, tests, ◌&&◌, ℕ, ℤ, List, [], ◌∷◌}
use Rattle.std.proofs.lemmas.Iterator.{YieldsList-from_slice}
use Rattle.std.proofs.lemmas.Iterator.Search.{all_from_yields_List}
use Rattle.std.specs.List.{list_all}
use Rattle.whole.specs.Number.{is_within}
use Rattle.coordinates.specs.Refusal.{are_within}
use Rattle.coordinates.proofs.inner.are_within.Goals as goal

-- the test of all numbers goes down the list as `list_all` does
same : (k : ℕ) (xs : List ℤ) → list_all (is_within k) xs ≡ are_within k xs
unfolding are_within
same k [] = refl
same k (x ∷ xs) = ap (λ b. is_within k x && b) (same k xs)

pub returns : goal.returns
returns c =
    let xs = c.args.coordinates.now in
    let k = c.args.limit in
    all_from_yields_List (is_within k) _ _ c.all.result c.all.ensures.ran (YieldsList-from_slice xs cc) (λ x b q h. search (rules, tests))
    ∙ same k xs
