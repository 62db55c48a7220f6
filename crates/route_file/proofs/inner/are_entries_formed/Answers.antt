-- The test of all entries goes up the range as `are_formed` does.
use Rattle.std.proofs.Common.{rules, tests, arith, ◌≡◌, ◌∙◌, refl, ap, ◌&&◌, ◌+◌, ◌*◌, ℕ, zero, suc, List, length}
use Rattle.std.proofs.lemmas.Iterator.{YieldsList-from_range}
use Rattle.std.proofs.lemmas.Iterator.Search.{all_from_yields_List}
use Rattle.std.specs.List.{list_all, range_with_len}
use Rattle.route_file.specs.Form.{entry_at, is_entry_formed, are_formed}
use Rattle.route_file.proofs.inner.are_entries_formed.Goals as goal

same : (end : ℕ) (f : List ℕ) (k n : ℕ) → list_all (λ i. is_entry_formed end (length f) (entry_at f i)) (range_with_len k n) ≡ are_formed end f k n
unfolding are_formed
same end f k zero = refl
same end f k (suc n) = ap (λ b. is_entry_formed end (length f) (entry_at f k) && b) (same end f (k + 1) n)

pub returns : goal.returns
returns c =
    let f = c.args.file.now in
    let n = c.args.n in
    all_from_yields_List (λ i. is_entry_formed (4 + 8 * n) (length f) (entry_at f i)) _ _ c.all.result c.all.ensures.ran (YieldsList-from_range 0 n n refl (omega arith)) (λ x b q h. search (rules, tests))
    ∙ same (4 + 8 * n) f 0 n
