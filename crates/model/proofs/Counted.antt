-- L3: on sound tables an access by the stored count is the access by the lines counted.
use Rattle.words.proofs.General.{ℕ, ◌≡◌, ap, true, pick}
use Rattle.model.specs.declared.Settings.{Settings}
use Rattle.model.specs.declared.Access.{Access}
use Rattle.model.specs.declared.Refusal.TheVariants.{BadAccess}
use Rattle.model.proofs.Terms.{address_of, well_formed, Tables, refused, sound, probe, rule_of, ways_of, met_in, proceed, access, met_counting, access_counting}
use Rattle.model.proofs.SoundFacts.{parts, dirty_count_is}

module _ (S : Settings) (x : Access) (t : Tables) (ok : sound S t ≡ true) where
  pub met_as_counted : met_in S x t ≡ met_counting S x t
  met_as_counted = ap (λ (d : ℕ). probe (rule_of S t (address_of x)) S d (ways_of S t.lines (address_of x)) x) (dirty_count_is S t (parts S t ok))

  pub access_as_counted : access S x t ≡ access_counting S x t
  unfolding access access_counting
  access_as_counted = ap (λ p. pick (well_formed x) (proceed S x t p) (refused BadAccess)) met_as_counted
