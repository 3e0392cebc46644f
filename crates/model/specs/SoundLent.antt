-- "Sound tables", of the numbers in the three lent slices, whatever they are: conditions 1 to 29, each beside document 01's words.
-- The check of refusal 3 computes `sound_lent`. proofs/ ties it to Sound: sound slices are the encoding of sound tables.
use Rattle.std.specs.Prelude.{ℕ, ◌+◌, ◌*◌, ◌-◌, ◌/◌, ◌%◌, ◌≤◌, Bool, not, ◌&&◌, ◌||◌, List, get_or, eqb, leb}
use Rattle.words.specs.Words.{imp, every, some, count_below}
use Rattle.model.specs.Range.{lines_of, is_tree}
use Rattle.model.specs.Tree.{tree_fine}
use Rattle.model.specs.Address.{block_of, sector_index, set_index, good_block}
use Rattle.model.specs.Sound.{last_cycle, all_ones}
use Rattle.model.specs.Lent.{Lent, tag_at, cycle_at, status_at, mask_at, readable_at, miss_at, sent_at, ticket_count_at, ticket_at, queued_at, queue_kind_at, queue_mask_at, now_at, dirty_count_at, taken_at, tree_at}
use Rattle.model.specs.declared.Settings.{Settings}

-- of n places those whose f isn't 0 are the first: behind a 0 stands a 0
abbrev pub gathered : ℕ → (ℕ → ℕ) → Bool
gathered n f = every (n - 1) (λ i. imp (eqb (f i) 0) (eqb (f (i + 1)) 0))

module _ (S : Settings) (longs words marks : List ℕ) where
  abbrev tag : ℕ → ℕ
  tag = tag_at longs

  abbrev cycle : ℕ → ℕ
  cycle = cycle_at words

  abbrev taken : ℕ → ℕ
  taken = taken_at S words

  abbrev status : ℕ → ℕ
  status = status_at marks

  abbrev mask : ℕ → ℕ
  mask = mask_at S words

  abbrev readable : ℕ → ℕ
  readable = readable_at S marks

  abbrev miss : ℕ → ℕ
  miss = miss_at S longs

  abbrev sent : ℕ → ℕ
  sent = sent_at S marks

  abbrev ticket_count : ℕ → ℕ
  ticket_count = ticket_count_at S marks

  abbrev ticket : ℕ → ℕ
  ticket = ticket_at S words

  abbrev queued : ℕ → ℕ
  queued = queued_at S longs

  abbrev kind : ℕ → ℕ
  kind = queue_kind_at S marks

  abbrev queue_mask : ℕ → ℕ
  queue_mask = queue_mask_at S words

  -- some sector of line l isn't INVALID
  abbrev pub live : ℕ → Bool
  live l = some 4 (λ k. not (eqb (status (4 * l + k)) 0))

  abbrev pub used : ℕ → Bool
  used e = not (eqb (ticket_count e) 0)

  abbrev pub entry_at_for : ℕ → ℕ → Bool
  entry_at_for a e = used e && eqb (miss e) a

  abbrev pub unsent_at_for : ℕ → ℕ → Bool
  unsent_at_for a e = used e && eqb (sent e) 0 && eqb (miss e) a

  abbrev pub read_for : ℕ → ℕ → Bool
  read_for a p = eqb (kind p) 1 && eqb (queued p) a

  -- line l is live and has the sector of address a, RESERVED
  abbrev pub reserved_for : ℕ → ℕ → Bool
  reserved_for a l = live l && eqb (tag l) (block_of a) && eqb (status (4 * l + sector_index a)) 1

  -- 1: "the current one, itself at most 4,294,967,294"
  abbrev pub now_fine : Bool
  now_fine = leb (now_at words) last_cycle

  -- ---- line l

  -- 7: wholly invalid, "its tag and cycle are then 0". 8: "any other line has a tag that is a block address of its own set".
  -- 9: "No line's cycle is later than the current one". 27, 28 (L1): the cycle at which it was taken "is no later than the line's last
  -- access, and 0 on a wholly invalid line"
  abbrev pub line_shape : ℕ → Bool
  line_shape l =
      (live l || eqb (tag l) 0 && eqb (cycle l) 0 && eqb (taken l) 0)
      && imp (live l) (good_block (tag l) && eqb (set_index S (tag l)) (l / S.ways))
      && leb (cycle l) (now_at words)
      && leb (taken l) (cycle l)

  -- 10: "no two such lines of a set share a tag": none before line l has its tag
  abbrev pub apart : ℕ → ℕ → Bool
  apart l m = imp (live m) (not (eqb (tag m) (tag l)))

  abbrev pub line_alone : ℕ → Bool
  line_alone l = imp (live l) (every l (λ m. imp (eqb (m / S.ways) (l / S.ways)) (apart l m)))

  abbrev pub line_fine : ℕ → Bool
  line_fine l = line_shape l && line_alone l

  -- ---- sector i of all lines

  -- 2: "A status is 0 to 3". 3: "a mark 0 or 1". 4: "INVALID and VALID have mask 0". 5: "MODIFIED a mask that isn't 0".
  -- 6: "Only a MODIFIED sector whose mask isn't all ones may be unreadable."
  abbrev pub sector_shape : ℕ → Bool
  sector_shape i =
      leb (status i) 3
      && leb (readable i) 1
      && imp (eqb (status i) 0 || eqb (status i) 2) (eqb (mask i) 0)
      && imp (eqb (status i) 3) (not (eqb (mask i) 0))
      && imp (eqb (readable i) 0) (eqb (status i) 3 && not (eqb (mask i) all_ones))

  -- 17: a RESERVED sector has an entry
  abbrev pub sector_backed : ℕ → Bool
  sector_backed i = imp (eqb (status i) 1) (some S.misses (entry_at_for (tag (i / 4) + 32 * (i % 4))))

  abbrev pub sector_fine : ℕ → Bool
  sector_fine i = sector_shape i && sector_backed i

  -- ---- ticket place i of all entries

  -- 15: past the tickets of its entry it is 0
  abbrev pub ticket_fine : ℕ → Bool
  ticket_fine i = imp (leb (ticket_count (i / S.readers)) (i % S.readers)) (eqb (ticket i) 0)

  -- ---- entry e

  -- 11: at most W tickets. 13: "a mark 0 or 1". 14: "unused places and fields are zero"
  abbrev pub entry_shape : ℕ → Bool
  entry_shape e =
      leb (ticket_count e) S.readers
      && leb (sent e) 1
      && imp (eqb (ticket_count e) 0) (eqb (miss e) 0 && eqb (sent e) 0)

  -- 16: "every entry names a sector of such a line", RESERVED
  abbrev pub entry_backed : ℕ → Bool
  entry_backed e = imp (used e) (eqb (miss e % 32) 0 && some (lines_of S) (reserved_for (miss e)))

  -- 18: "No two entries share an address."
  abbrev pub entry_alone : ℕ → Bool
  entry_alone e = imp (used e) (not (some e (entry_at_for (miss e))))

  -- 24: "Each unsent entry has exactly one read in the queue"
  abbrev pub entry_asked : ℕ → Bool
  entry_asked e = imp (used e && eqb (sent e) 0) (eqb (count_below S.queue (read_for (miss e))) 1)

  abbrev pub entry_fine : ℕ → Bool
  entry_fine e = entry_shape e && entry_backed e && entry_alone e && entry_asked e

  -- ---- queue place p

  -- 19: unused, a read or a write-back. 21, 22: "unused places and fields are zero".
  -- 23: "A queued write-back has a block address and at least one dirty byte."
  abbrev pub place_shape : ℕ → Bool
  place_shape p =
      leb (kind p) 2
      && imp (eqb (kind p) 0) (eqb (queued p) 0)
      && imp (leb (kind p) 1) (every 4 (λ k. eqb (queue_mask (4 * p + k)) 0))
      && imp (eqb (kind p) 2) (good_block (queued p) && some 4 (λ k. not (eqb (queue_mask (4 * p + k)) 0)))

  -- 25: "no other read stands there": a read has an unsent entry
  abbrev pub read_backed : ℕ → Bool
  read_backed p = imp (eqb (kind p) 1) (some S.misses (unsent_at_for (queued p)))

  abbrev pub place_fine : ℕ → Bool
  place_fine p = place_shape p && read_backed p

  -- ---- the dirty count

  -- some sector of line l is MODIFIED
  abbrev pub dirty_line : ℕ → Bool
  dirty_line l = some 4 (λ k. eqb (status (4 * l + k)) 3)

  -- 26 (L3): it is the number of lines with a MODIFIED sector
  abbrev pub count_fine : Bool
  count_fine = eqb (dirty_count_at S words) (count_below (lines_of S) dirty_line)

  -- ---- the trees

  -- 29 (L9): no "tree bits set beyond the nodes in use or under another rule"
  abbrev pub set_fine : ℕ → Bool
  set_fine i = tree_fine (is_tree S) S.ways (tree_at S words i)

  -- ---- all of it; 12 and 20, used places stand first, are the two `gathered`

  abbrev pub lines_fine : Bool
  lines_fine = every (lines_of S) line_fine

  unfoldable pub sound_numbers : Bool
  sound_numbers =
      now_fine
      && lines_fine
      && every (4 * lines_of S) sector_fine
      && every (S.readers * S.misses) ticket_fine
      && gathered S.misses ticket_count
      && every S.misses entry_fine
      && gathered S.queue kind
      && every S.queue place_fine
      && count_fine
      && every S.sets set_fine

abbrev pub sound_lent : Settings → Lent → Bool
sound_lent S L = sound_numbers S L.longs L.words L.marks

-- words that 32 bits hold: the code knows that of any slice
abbrev pub Small : Lent → Type 0
Small L = (i : ℕ) → get_or L.words i 0 ≤ all_ones
