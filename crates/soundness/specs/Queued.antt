-- Where the queue's used places end. Nothing here is document 01's.
use Rattle.std.specs.Prelude.{◌≡◌, List, ℕ, ◌≤◌, ◌<◌}
use Rattle.model.specs.Lent.{queue_kind_at}
use Rattle.model.specs.declared.Settings.{Settings}

-- no place from n on is used
pub record Queued (S : Settings) (marks : List ℕ) (n : ℕ) : Type 0 where
  pub most : n ≤ S.queue
  pub behind : (p : ℕ) → p < S.queue → n ≤ p → queue_kind_at S marks p ≡ 0
