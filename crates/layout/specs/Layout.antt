-- Where each part of the tables begins in the three lent slices, by the settings, and how long the slice of words is at most.
use Rattle.std.specs.Prelude.{◌≡◌, ℕ}
use Rattle.model.specs.Layout.{longs_from, words_from, marks_from, miss_region, queue_region, mask_region, ticket_region, queue_mask_region, dirty_count_region, taken_region, tree_region, readable_region, sent_region, ticket_count_region, kind_region}
use Rattle.model.specs.Inner.{Aside}
use Rattle.model.specs.declared.Settings.{Settings}
use Rattle.layout.specs.declared.Layout.{Layout}

pub record LaysOut (S : Settings) (at : Layout) : Type 0 where
  -- of longs, behind the tags
  pub misses : at.misses ≡ longs_from S miss_region
  pub queue : at.queue ≡ longs_from S queue_region
  -- of words, behind the current cycle and the cycles
  pub masks : at.masks ≡ words_from S mask_region
  pub tickets : at.tickets ≡ words_from S ticket_region
  pub backs : at.backs ≡ words_from S queue_mask_region
  pub dirty : at.dirty ≡ words_from S dirty_count_region
  pub taken : Aside (at.taken ≡ words_from S taken_region)
  pub trees : Aside (at.trees ≡ words_from S tree_region)
  -- of marks, behind the statuses
  pub readables : at.readables ≡ marks_from S readable_region
  pub sent : at.sent ≡ marks_from S sent_region
  pub counts : at.counts ≡ marks_from S ticket_count_region
  pub kinds : at.kinds ≡ marks_from S kind_region

-- more than any settings in range ask for, so that no place in the words wraps
abbrev pub words_most : ℕ
words_most = 65536
