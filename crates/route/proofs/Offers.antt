-- Spans offered one after the other to the fresh board of a row: the board is that of the history of these offers, which accepts all of
-- them, and 8 is given exactly when after some span the union needs more than 32 runs. Assumes nothing.
use mathlib.Core.Path.{◌≡◌, refl, sym, ap, subst, ◌∙◌}
use mathlib.Core.Logic.{◌↔◌, ◌⊎◌, inl, inr, ⊎_elim}
use mathlib.Core.Bool.{true, cond, ◌||◌}
use mathlib.Core.List.{List, [], ◌∷◌, ◌++◌, append_assoc}
use Prim.Native.Nat.{ℕ, zero, suc, ◌+◌, ◌≤◌, ◌<◌}
use native.Mathlib.Omega.{arith}
use borrow.Author.Tests.{eq-eqb, ne_eqb}
use lib.Dec.{eqb, lit≤}
use lib.IntN.{ℤ}
use lib.ListN.{length}
use Rattle.whole.proofs.Tests.{or_turned, or-false}
use Rattle.whole.specs.Number.{Within}
use Rattle.whole.specs.Columns.{between}
use Rattle.whole.specs.Places.{list_from}
use Rattle.shapes.specs.declared.Span.{Span}
use Rattle.shapes.specs.Limits.{board_runs}
use Rattle.shapes.specs.Spans.{is_empty}
use Rattle.board.specs.declared.Board.{Board}
use Rattle.board.specs.declared.Run.{Run}
use Rattle.board.specs.Runs.{none}
use Rattle.board.specs.Boards.{Answer, Sound, answer_of, added, offer_refusal, begun, board_of}
use Rattle.board_laws.specs.Histories.{after, reached, accepted, covered, board_after, spans_after, Lights}
use Rattle.board_laws.specs.Offers.{Proper, Offerable}
use Rattle.board_laws.proofs.Offers.{added-cases, added-row, added-either, added-sound, offered-added, sound-of}
use Rattle.board_laws.proofs.Refused.{fresh-chosen}
use Rattle.board_laws.proofs.Demand.{demand-3}
use Rattle.route.specs.Rows.{offer_all}
use Rattle.route.specs.Words.{offering, Crowded}

-- ---- one more span

-- an empty one changes nothing
pub added-empty : (b : Board) (s : Span) → is_empty s ≡ true → added b s ≡ answer_of 0 b
unfolding added
added-empty b s e = rw e

pub added-few : (b : Board) (s : Span) → b.count ≤ board_runs → (added b s).board.count ≤ board_runs
unfolding board_of
added-few b s few = added-cases b s (λ a. a.board.count ≤ board_runs) (λ _. few) (λ _ h. h) (λ _ _. few)

pub offer-none : (b : Board) → offer_all b [] ≡ answer_of 0 b
unfolding offer_all
offer-none b = refl

module _ (b : Board) (s : Span) (ss : List Span) where
  pub offer-on : (added b s).refusal ≡ 0 → offer_all b (s ∷ ss) ≡ offer_all (added b s).board ss
  unfolding offer_all
  offer-on e = rw (eq-eqb (added b s).refusal 0 e)

  pub offer-stop : ((added b s).refusal ≡ 0 → ⊥) → offer_all b (s ∷ ss) ≡ added b s
  unfolding offer_all
  offer-stop other = rw (ne_eqb (added b s).refusal 0 other)

  pub offer-empty : is_empty s ≡ true → offer_all b (s ∷ ss) ≡ offer_all b ss
  offer-empty e = let is = added-empty b s e in offer-on (ap (λ a. a.refusal) is) ∙ ap (λ a. offer_all a.board ss) is

  -- the first was accepted, or there is no room for it
  pub first-or-full : (((added b s).refusal ≡ 0) × (offer_all b (s ∷ ss) ≡ offer_all (added b s).board ss)) ⊎ (offer_all b (s ∷ ss) ≡ answer_of 8 b)
  first-or-full =
      ⊎_elim (λ e. inl (e, offer-on e))
      (λ full. inr (offer-stop (λ e. omega (arith, e, ap (λ a. a.refusal) full)) ∙ full))
      (added-either b s)

full-no : {b : Board} {a : Answer} → a ≡ answer_of 8 b → a.refusal ≡ 0 → ⊥
full-no full e = omega (arith, e, ap (λ a. a.refusal) full)

-- where all are accepted, the first is
first_taken : (b : Board) (s : Span) (ss : List Span) → (offer_all b (s ∷ ss)).refusal ≡ 0 → ((added b s).refusal ≡ 0) × (offer_all b (s ∷ ss) ≡ offer_all (added b s).board ss)
first_taken b s ss e = ⊎_elim (λ on. on) (λ full. absurd (full-no full e)) (first-or-full b s ss)

-- ---- all of them

pub all-or-full : (b : Board) (ss : List Span) → ((offer_all b ss).refusal ≡ 0) ⊎ ((offer_all b ss).refusal ≡ 8)
all-or-full b [] = inl (ap (λ a. a.refusal) (offer-none b))
all-or-full b (s ∷ ss) = ⊎_elim (λ on. rw on.1 (all-or-full (added b s).board ss)) (λ full. inr (ap (λ a. a.refusal) full)) (first-or-full b s ss)

-- some first, and then the others
all_append : (b : Board) (us vs : List Span) → (offer_all b us).refusal ≡ 0 → offer_all b (us ++ vs) ≡ offer_all (offer_all b us).board vs
all_append b [] vs e = ap (λ a. offer_all a.board vs) (sym (offer-none b))
all_append b (s ∷ us) vs e =
    let on = first_taken b s us e in
    offer-on b s (us ++ vs) on.0 ∙ all_append (added b s).board us vs (ap (λ a. a.refusal) (sym on.1) ∙ e) ∙ ap (λ a. offer_all a.board vs) (sym on.1)

-- no room at some span, the others are not looked at
all-stop : (b : Board) (us vs : List Span) → (offer_all b us).refusal ≡ 8 → (offer_all b (us ++ vs)).refusal ≡ 8
all-stop b [] vs e = absurd (omega (arith, e, ap (λ a. a.refusal) (offer-none b)))
all-stop b (s ∷ us) vs e =
    ⊎_elim (λ z. rw (offer-on b s (us ++ vs) z) (all-stop (added b s).board us vs (ap (λ a. a.refusal) (sym (offer-on b s us z)) ∙ e)))
    (λ z. ap (λ a. a.refusal) (offer-stop b s (us ++ vs) (full-no z) ∙ z)) (added-either b s)

-- ---- spans of a row whose columns are all within k

pub data AllFit (k : ℕ) (row : ℤ) : List Span → Type 0 where
  no-spans : AllFit k row []
  and-span : {s : Span} {ss : List Span} → Proper k row s → AllFit k row ss → AllFit k row (s ∷ ss)

module _ {k : ℕ} {row : ℤ} where
  fit_at : (us : List Span) (s : Span) (vs : List Span) → AllFit k row (us ++ (s ∷ vs)) → Proper k row s
  fit_at [] s vs (and-span p f) = p
  fit_at (u ∷ us) s vs (and-span p f) = fit_at us s vs f

  fit-before : (us vs : List Span) → AllFit k row (us ++ vs) → AllFit k row us
  fit-before [] vs f = no-spans
  fit-before (u ∷ us) vs (and-span p f) = and-span p (fit-before us vs f)

  pub fit-list : (at : ℕ → Span) (left i : ℕ) → ((d : ℕ) → d < left → Proper k row (at (i + d))) → AllFit k row (list_from at i left)
  unfolding list_from
  fit-list at zero i each = no-spans
  fit-list at (suc left) i each =
      let here : i + 0 ≡ i = omega arith in
      and-span (rw here at (each 0 (omega arith))) (fit-list at left (suc i) (λ d h. let on : suc i + d ≡ i + suc d = omega arith in rw on (each (suc d) (omega arith))))

module _ (k : ℕ) (row : ℤ) where
  -- a board of the row that may be offered to
  record Fine (b : Board) : Type 0 where
    sound : Sound k b
    same : b.row ≡ row

  offerable : {b : Board} {s : Span} → Fine b → Proper k row s → Offerable k b s
  offerable fine p = record { sound = fine.sound; proper = record { same_row = p.same_row ∙ sym fine.same; inside = p.inside } }

  fine-next : {b : Board} {s : Span} → Fine b → Proper k row s → Fine (added b s).board
  fine-next {b} {s} fine p = record { sound = added-sound fine.sound p.inside; same = added-row b s ∙ fine.same }

  -- the history of the offers comes to the same board, and accepts the spans
  record Follows (b : Board) (held ss : List Span) : Type 0 where
    board-is : (offer_all b ss).board ≡ reached k b (offering ss)
    covered-is : (x : ℤ) → covered (accepted k b held (offering ss)) x ≡ (covered ss x || covered held x)
    fine : Fine (offer_all b ss).board

  follows : (b : Board) (held ss : List Span) → Fine b → AllFit k row ss → (offer_all b ss).refusal ≡ 0 → Follows b held ss
  unfolding offering reached after accepted covered offer_all
  follows b held [] fine fit e = record { board-is = refl; covered-is = λ x. refl; fine = fine }
  follows b held (s ∷ ss) fine (and-span p fit) e =
      let on = first_taken b s ss e in
      let same = offered-added (offerable fine p) in
      let next = ap (λ a. a.board) same in
      let taken = eq-eqb (offer_refusal k b s) 0 (ap (λ a. a.refusal) same ∙ on.0) in
      let rest = follows (added b s).board (s ∷ held) ss (fine-next fine p) fit (ap (λ a. a.refusal) (sym on.1) ∙ e) in
      record {
        board-is = ap (λ a. a.board) on.1 ∙ rest.board-is ∙ ap (λ c. reached k c (offering ss)) (sym next);
        covered-is =
            λ x. ap (λ c. covered (accepted k c (cond (eqb (offer_refusal k b s) 0) (s ∷ held) held) (offering ss)) x) next
            ∙ ap (λ t. covered (accepted k (added b s).board (cond t (s ∷ held) held) (offering ss)) x) taken
            ∙ rest.covered-is x
            ∙ or_turned (covered ss x) (between s.start s.end x) (covered held x);
        fine = subst (λ a. Fine a.board) (sym on.1) rest.fine;
      }

  sound-from : (b : Board) (ss : List Span) → Fine b → AllFit k row ss → Sound k (offer_all b ss).board
  unfolding offer_all
  sound-from b [] fine fit = fine.sound
  sound-from b (s ∷ ss) fine (and-span p fit) =
      ⊎_elim (λ z. subst (λ a. Sound k a.board) (sym (offer-on b s ss z)) (sound-from (added b s).board ss (fine-next fine p) fit))
      (λ z. subst (λ a. Sound k a.board) (sym (offer-stop b s ss (full-no z))) (fine-next fine p).sound) (added-either b s)

  module _ (near : Within row k) where
    abbrev fresh : Board
    fresh = board_of row []

    begun-is : (begun k row).board ≡ fresh
    begun-is = ap (λ a. a.board) ((fresh-chosen k row).holds near)

    abbrev drawn : List Span → Board
    drawn us = (offer_all fresh us).board

    fresh-fine : Fine fresh
    unfolding board_of
    fresh-fine = record { sound = sound-of near (lit≤ tt) none; same = refl }

    module _ (us : List Span) (fit : AllFit k row us) (e : (offer_all fresh us).refusal ≡ 0) where
      all-follow : Follows fresh [] us
      all-follow = follows fresh [] us fresh-fine fit e

      pub board-is : (offer_all fresh us).board ≡ board_after k row (offering us)
      board-is = all-follow.board-is ∙ ap (λ b. reached k b (offering us)) (sym begun-is)

      pub covered-is : (x : ℤ) → covered (spans_after k row (offering us)) x ≡ covered us x
      unfolding covered
      covered-is x = ap (λ b. covered (accepted k b [] (offering us)) x) begun-is ∙ all-follow.covered-is x ∙ or-false (covered us x)

      -- one more span has no room exactly where the union needs more than 32 runs
      module _ (s : Span) (p : Proper k row s) where
        one_more : (x : ℤ) → covered (s ∷ spans_after k row (offering us)) x ≡ covered (s ∷ us) x
        unfolding covered
        one_more x = ap (λ t. between s.start s.end x || t) (covered-is x)

        offered-is : offer_refusal k (board_after k row (offering us)) s ≡ (added (offer_all fresh us).board s).refusal
        offered-is = ap (λ b. offer_refusal k b s) (sym board-is) ∙ ap (λ a. a.refusal) (offered-added (offerable all-follow.fine p))

        full-exactly : ((added (offer_all fresh us).board s).refusal ≡ 8) ↔ ((rs : List Run) → Lights rs (covered (s ∷ us)) → board_runs < length rs)
        full-exactly =
            let d = demand-3 k row near (offering us) in (
              λ h rs l. d.refused s p (offered-is ∙ h) rs (λ x. l x ∙ sym (one_more x)),
              λ n. sym offered-is ∙ d.needed s p (λ rs up l. n rs (λ x. l x ∙ one_more x)),
            )

    crowded-from : (us ss : List Span) → AllFit k row (us ++ ss) → (offer_all fresh us).refusal ≡ 0 → (offer_all (drawn us) ss).refusal ≡ 8 → Crowded (us ++ ss)
    crowded-from us [] f e eight = absurd (omega (arith, eight, ap (λ a. a.refusal) (offer-none (drawn us))))
    crowded-from us (s ∷ ss) f e eight = by (added-either (drawn us) s) (λ f longer rest. crowded-from (us ++ (s ∷ [])) ss f longer rest)
      where
        turned : (us ++ (s ∷ [])) ++ ss ≡ us ++ (s ∷ ss)
        turned = append_assoc us (s ∷ []) ss

        by : ((added (drawn us) s).refusal ≡ 0) ⊎ (added (drawn us) s ≡ answer_of 8 (drawn us))
            → (AllFit k row ((us ++ (s ∷ [])) ++ ss) → (offer_all fresh (us ++ (s ∷ []))).refusal ≡ 0 → (offer_all (drawn (us ++ (s ∷ []))) ss).refusal ≡ 8 → Crowded ((us ++ (s ∷ [])) ++ ss))
            → Crowded (us ++ (s ∷ ss))
        by (inl z) go =
            let more = all_append fresh us (s ∷ []) e ∙ offer-on (drawn us) s [] z ∙ offer-none (added (drawn us) s).board in
            let rest = ap (λ a. (offer_all a.board ss).refusal) more ∙ ap (λ a. a.refusal) (sym (offer-on (drawn us) s ss z)) ∙ eight in
            subst Crowded turned (go (subst (AllFit k row) (sym turned) f) (ap (λ a. a.refusal) more) rest)
        by (inr z) go =
            record { before = us; span = s; later = ss; split = refl; needs = (full-exactly us (fit-before us (s ∷ ss) f) e s (fit_at us s ss f)).0 (ap (λ a. a.refusal) z) }

    module _ (ss : List Span) (f : AllFit k row ss) (c : Crowded ss) where
      all_fit : AllFit k row (c.before ++ (c.span ∷ c.later))
      all_fit = rw c.split at f

      -- those before it were accepted, and there is no room for it; or there was none for one of them
      full-here : (offer_all fresh c.before).refusal ≡ 0 → (offer_all fresh (c.before ++ (c.span ∷ c.later))).refusal ≡ 8
      full-here e =
          let full = (full-exactly c.before (fit-before c.before (c.span ∷ c.later) all_fit) e c.span (fit_at c.before c.span c.later all_fit)).1 c.needs in
          ap (λ a. a.refusal) (all_append fresh c.before (c.span ∷ c.later) e ∙ offer-stop (drawn c.before) c.span c.later (λ z. omega (arith, z, full))) ∙ full

      crowded-eight : (offer_all fresh ss).refusal ≡ 8
      crowded-eight = ap (λ l. (offer_all fresh l).refusal) c.split ∙ ⊎_elim full-here (all-stop fresh c.before (c.span ∷ c.later)) (all-or-full fresh c.before)

    pub eight-exactly : (ss : List Span) → AllFit k row ss → ((offer_all fresh ss).refusal ≡ 8) ↔ Crowded ss
    eight-exactly ss f =
        let none = offer-none fresh in (
          λ e. crowded-from [] ss f (ap (λ a. a.refusal) none) (ap (λ a. (offer_all a.board ss).refusal) none ∙ e),
          crowded-eight ss f,
        )

    -- refused or not, the board is sound
    pub all_sound : (ss : List Span) → AllFit k row ss → Sound k (offer_all fresh ss).board
    all_sound ss f = sound-from fresh ss fresh-fine f
