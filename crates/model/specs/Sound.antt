-- "Sound tables", of the tables as a reader of document 01 sees them; a bullet each, in document 01's order.
use Rattle.std.specs.Prelude.{ℕ, ◌+◌, ◌*◌, ◌/◌, Bool, not, ◌&&◌, ◌||◌, List, length, get_or, leb, eqb}
use Rattle.words.specs.Words.{pick, all, any, count, every, same, within}
use Rattle.model.specs.Range.{lines_of, is_tree}
use Rattle.model.specs.Tree.{tree_fine}
use Rattle.model.specs.Address.{block_of, set_index, good_sector, good_block}
use Rattle.model.specs.Tables.{Line, Entry, Tables, is_reserved, wholly_invalid, holds, entry_for, is_fetch, empty, fresh, dirty_lines}
use Rattle.model.specs.declared.Settings.{Settings}
use Rattle.model.specs.declared.Status.{Status}
use Rattle.model.specs.declared.Status.TheVariants.{Invalid, Reserved, Valid, Modified}
use Rattle.model.specs.declared.Sector.{Sector}
use Rattle.model.specs.declared.QueueKind.{QueueKind}
use Rattle.model.specs.declared.QueueKind.TheVariants as queue
use Rattle.model.specs.declared.Queued.{Queued}

abbrev pub all_ones : ℕ
all_ones = 4294967295

abbrev pub last_cycle : ℕ
last_cycle = 4294967294

-- "INVALID and VALID have mask 0, MODIFIED a mask that isn't 0, RESERVED any mask. Only a MODIFIED sector whose mask isn't all ones
-- may be unreadable."
abbrev pub mask_ok : Status → ℕ → Bool → Bool
mask_ok Invalid m r = eqb m 0 && r
mask_ok Reserved m r = leb m all_ones && r
mask_ok Valid m r = eqb m 0 && r
mask_ok Modified m r = leb m all_ones && not (eqb m 0) && (r || not (eqb m all_ones))

abbrev pub sector_ok : Sector → Bool
sector_ok s = mask_ok s.status s.mask s.readable

-- line i: four sectors; "No line's cycle is later than the current one"; the cycle at which it was taken "is no later than the
-- line's last access, and 0 on a wholly invalid line" (L1); wholly invalid, "its tag and cycle are then 0"; "any other line has a tag
-- that is a block address of its own set"
unfoldable pub line_ok : Settings → ℕ → ℕ → Line → Bool
line_ok S now i l =
    eqb (length l.sectors) 4 && all sector_ok l.sectors && leb l.cycle now && leb l.taken l.cycle
    && pick (wholly_invalid l) (eqb l.tag 0 && eqb l.cycle 0 && eqb l.taken 0) (good_block l.tag && eqb (set_index S l.tag) (i / S.ways))

-- "no two such lines of a set share a tag": a tag tells its set
unfoldable pub alone : List Line → Line → Bool
alone ls l = wholly_invalid l || eqb (count (holds l.tag) ls) 1

-- "A sector of a line that isn't wholly invalid is RESERVED exactly if the miss table has an entry for its address"
abbrev pub agrees : List Entry → Line → ℕ → Bool
agrees es l k = same (is_reserved (get_or l.sectors k empty).status) (any (entry_for (l.tag + 32 * k)) es)

unfoldable pub reserved_ok : List Entry → Line → Bool
reserved_ok es l = wholly_invalid l || every 4 (agrees es l)

abbrev pub reading_of : ℕ → Queued → Bool
reading_of a x = is_fetch x.kind && eqb a x.address

abbrev pub unsent_for : ℕ → Entry → Bool
unsent_for a e = entry_for a e && not e.sent

-- "every entry names a sector of such a line. No two entries share an address." 1 to W tickets. "Each unsent entry has exactly one
-- read in the queue"
unfoldable pub entry_ok : Settings → Tables → Entry → Bool
entry_ok S t e =
    good_sector e.address && any (holds (block_of e.address)) t.lines
    && eqb (count (entry_for e.address) t.misses) 1
    && within 1 S.readers (length e.tickets)
    && (e.sent || eqb (count (reading_of e.address) t.queue) 1)

-- a read: "no other read stands there", and its masks are unused: zero. "A queued write-back has a block address and at least one
-- dirty byte."
abbrev pub kind_ok : List Entry → QueueKind → ℕ → List ℕ → Bool
kind_ok es queue.Read a ms = any (unsent_for a) es && all (λ m. eqb m 0) ms
kind_ok es queue.WriteBack b ms = good_block b && any (λ m. not (eqb m 0)) ms

-- four masks of 32 bits, and what its kind asks
unfoldable pub queued_ok : List Entry → Queued → Bool
queued_ok es x = eqb (length x.masks) 4 && all (λ m. leb m all_ones) x.masks && kind_ok es x.kind x.address x.masks

-- as many lines as the settings say; "the current one, itself at most 4,294,967,294"; "At most M entries and Q queue places are in use"; the stored count is that of the dirty lines (L3);
-- a tree for each set, with no "tree bits set beyond the nodes in use or under another rule" (L9)
unfoldable pub sound : Settings → Tables → Bool
sound S t =
    eqb (length t.lines) (lines_of S)
    && leb t.now last_cycle
    && every (lines_of S) (λ i. line_ok S t.now i (get_or t.lines i fresh))
    && all (alone t.lines) t.lines
    && all (reserved_ok t.misses) t.lines
    && all (entry_ok S t) t.misses
    && all (queued_ok t.misses) t.queue
    && leb (length t.misses) S.misses
    && leb (length t.queue) S.queue
    && eqb t.dirty_count (dirty_lines t)
    && eqb (length t.trees) S.sets
    && all (tree_fine (is_tree S) S.ways) t.trees
