-- 01, "The route file": the header, the entries, and the form.
use Rattle.std.specs.Prelude.{Bool, true, ◌&&◌, List, ◌≡◌, ℕ, zero, suc, ◌+◌, ◌*◌, ◌≤◌, ◌<◌, eqb, leb, length}
use Rattle.route_file.specs.declared.inner.Entry.{Entry}
use Rattle.route_file.specs.Numbers.{number_at}

-- ---- "Header: count n (0 to 16), length of the file"

abbrev pub most_routes : ℕ
most_routes = 16

unfoldable pub route_count : List ℕ → ℕ
route_count f = number_at f 0

unfoldable pub said_length : List ℕ → ℕ
said_length f = number_at f 2

-- ---- "Then n entries: offset of the points from the file's start, number of points, width, closed (0 or 1)"

unfoldable pub entry_at : List ℕ → ℕ → Entry
entry_at f k =
    record {
      offset = number_at f (4 + 8 * k);
      points = number_at f (4 + 8 * k + 2);
      width = number_at f (4 + 8 * k + 4);
      closed = number_at f (4 + 8 * k + 6);
    }

-- where the entries end
abbrev pub entries_end : List ℕ → ℕ
entries_end f = 4 + 8 * route_count f

-- ---- the form, in 01's words: what refusal 9 names does not hold

-- not "closed above 1, points beginning before the end of the entries or ending past the file"; a point has four bytes
pub record EntryFormed (end size : ℕ) (e : Entry) : Type 0 where
  pub flag : e.closed ≤ 1
  pub after_entries : end ≤ e.offset
  pub inside : e.offset + 4 * e.points ≤ size

-- not "shorter than 4 bytes, n above 16, length not the file's, the entries past its end", and each entry formed
pub record Formed (f : List ℕ) : Type 0 where
  pub header : 4 ≤ length f
  pub few : route_count f ≤ most_routes
  pub said : said_length f ≡ length f
  pub entries : entries_end f ≤ length f
  pub each : (k : ℕ) → k < route_count f → EntryFormed (entries_end f) (length f) (entry_at f k)

-- ---- the tests for that

unfoldable pub is_entry_formed : ℕ → ℕ → Entry → Bool
is_entry_formed end size e = leb e.closed 1 && (leb end e.offset && leb (e.offset + 4 * e.points) size)

-- n entries from the k-th on
unfoldable pub are_formed : ℕ → List ℕ → ℕ → ℕ → Bool
are_formed end f k zero = true
are_formed end f k (suc n) = is_entry_formed end (length f) (entry_at f k) && are_formed end f (k + 1) n

unfoldable pub is_formed : List ℕ → Bool
is_formed f =
    leb 4 (length f)
    && (leb (route_count f) most_routes
    && (eqb (said_length f) (length f)
    && (leb (entries_end f) (length f) && are_formed (entries_end f) f 0 (route_count f))))
