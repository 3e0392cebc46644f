-- Numbers and fields, by the tests that the code makes.
use Rattle.words.proofs.General.{ℕ, ◌≡◌, sym, ◌∙◌, Bool, true, false, ◌&&◌, false≢true, refl, List, length, eqb, leb, eq-eqb, ne_eqb, pick}
use Rattle.std.proofs.Common.{Option, Some, None, Result, Ok, Err}
use Rattle.std.specs.Bool.{then_some}
use Rattle.std.specs.Result.{result_ok}
use Rattle.text.specs.Digits.{parse_number}
use Rattle.text.specs.declared.NotANumber.{NotANumber}
use Rattle.text.specs.Words.{skip_spaces, word_end, word_at}
use Rattle.text.specs.Rules.{rule_named}
use Rattle.text.specs.declared.Number.{Number}
use Rattle.assembly.specs.Language.{whole_number, number_next, word_is, behind_word, rule_value}

then_pick : (b : Bool) (n : Number) → then_some b n ≡ pick b (Some n) None
then_pick true n = refl
then_pick false n = refl

module _ (most : ℕ) (s : List ℕ) (at : ℕ) {x : Result Number NotANumber} {a : ℕ} (f : a ≡ skip_spaces s at) (e : x ≡ parse_number s a) where
  pub number_none : result_ok x ≡ None → None ≡ number_next most s at
  unfolding number_next
  number_none q = rw (← f, ← e) (go x q)
    where
      go : (y : Result Number NotANumber) → result_ok y ≡ None → None ≡ whole_number most s y
      go (Ok n) p = absurd (false≢true (cc))
      go (Err d) p = refl

  pub number_some : {n : Number} → result_ok x ≡ Some n → {b : Bool} → b ≡ (leb n.value most && eqb (word_end s n.next) n.next) → then_some b n ≡ number_next most s at
  unfolding number_next
  number_some {n} q {b} t = rw (← f, ← e) (go x q)
    where
      go : (y : Result Number NotANumber) → result_ok y ≡ Some n → then_some b n ≡ whole_number most s y
      go (Ok m) p = let z : m ≡ n = cc in rw (z, ← t) (then_pick b n)
      go (Err d) p = absurd (false≢true (cc))

module _ (w : List ℕ) (f : List ℕ → ℕ → Option Number) (s : List ℕ) (at : ℕ) where
  pub word_none : length w ≡ 0 → {r : Option Number} → r ≡ f s at → r ≡ behind_word w f s at
  unfolding behind_word
  word_none n h = rw (eq-eqb (length w) 0 n) h

  pub word_there : (length w ≡ 0 → ⊥) → {a e : ℕ} {t : Bool} {r : Option Number} → a ≡ skip_spaces s at → t ≡ word_is s a w → t ≡ true → e ≡ word_end s a → r ≡ f s e → r ≡ behind_word w f s at
  unfolding behind_word
  word_there n p q t e h = let z = sym q ∙ t in rw (ne_eqb (length w) 0 n, ← p, z, ← e) h

  pub word_missing : (length w ≡ 0 → ⊥) → {a : ℕ} {t : Bool} → a ≡ skip_spaces s at → t ≡ word_is s a w → t ≡ false → None ≡ behind_word w f s at
  unfolding behind_word
  word_missing n p q t = let z = sym q ∙ t in rw (ne_eqb (length w) 0 n, ← p, z)

-- ---- a rule

module _ (s : List ℕ) (at : ℕ) where
  pub value_named : {a e n : ℕ} {x : Option ℕ} → a ≡ skip_spaces s at → x ≡ rule_named (word_at s a) → x ≡ Some n → e ≡ word_end s a → Some (record { value = n; next = e }) ≡ rule_value s at
  unfolding rule_value
  value_named p q h e = let z = sym q ∙ h in rw (← p, z, e)

  pub value_number : {a : ℕ} {x : Option ℕ} {r : Option Number} → a ≡ skip_spaces s at → x ≡ rule_named (word_at s a) → x ≡ None → r ≡ number_next 0xff s at → r ≡ rule_value s at
  unfolding rule_value
  value_number p q h e = let z = sym q ∙ h in rw (← p, z) e
