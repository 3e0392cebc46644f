-- Two logs, one behind the other.
use Rattle.words.proofs.General.{◌≡◌, refl, List, [], ◌∷◌, ◌++◌, append_assoc}
use Rattle.model.specs.RecordsOf as records
use Rattle.model.proofs.Terms.{log_bytes}
use Rattle.model.specs.declared.Event.{Event}

pub log_append : (es fs : List Event) → log_bytes (es ++ fs) ≡ log_bytes es ++ log_bytes fs
unfolding records.log_bytes
log_append [] fs = refl
log_append (e ∷ es) fs = rw (log_append es fs, append_assoc)
