-- What ties the lent slices to the tables: sound slices are the encoding of the tables read off them, which are sound; the encoding of
-- sound tables is sound and reads back; so a call on it is the step on the tables.
use Rattle.words.proofs.General.{◌≡◌, refl, sym, ap, ◌∙◌, true, length, eqb-true, eq-eqb, and_1, and_2, and_i}
use Rattle.model.specs.declared.Settings.{Settings}
use Rattle.model.specs.declared.Reply.{Reply}
use Rattle.model.proofs.Terms.{in_range, Tables, Outcome, refused, done, after, events_of, longs_length, words_length, marks_length, Lent, lengths_fit, tables_of, encode, sound}
use Rattle.model.proofs.Terms.{sound_lent, Small, call, encoded, events_told, Sized, Encodes, Does}
use Rattle.model.proofs.Fits.{ranged, fit}
use Rattle.encoding.proofs.LentSoundFacts.{sound_is}
use Rattle.encoding.proofs.Standing.{encode_stands, standing_encodes, encode-lengths}
use Rattle.encoding.proofs.NumbersAreTables.{stands_tables}
use Rattle.encoding.proofs.SoundByPlace.{soundly_shape, soundly_is}
use Rattle.encoding.proofs.EncodeIsSound.{stands_sound}
use Rattle.encoding.proofs.DecodeIsSound.{stands_soundly, read_stands, read_shape}

-- the three lengths as numbers
lengths : (S : Settings) (L : Lent) → lengths_fit S L ≡ true
    → (length L.longs ≡ longs_length S) × (length L.words ≡ words_length S) × (length L.marks ≡ marks_length S)
lengths S L e = search (eqb-true, and_1, and_2)

-- ---- from the slices

-- the words are 32-bit numbers, which the code knows of any slice
pub sound-encoded : (S : Settings) (L : Lent) → in_range S ≡ true → lengths_fit S L ≡ true → Small L → sound_lent S L ≡ true → Encodes S L (tables_of S L)
sound-encoded S L range fits small e =
    let is = (sound_is S L).fact e in
    let st = read_stands S L is (ranged S range).reader in
    let (a, b, c) = lengths S L fits in
    record {
      range = range;
      soundly = (soundly_is S (tables_of S L)).test (stands_soundly S L (tables_of S L) st (read_shape S L is) is small);
      encoded = standing_encodes S L (tables_of S L) st a b c;
    }

-- ---- from the tables

pub encode_fits : (S : Settings) (t : Tables) → lengths_fit S (encode S t) ≡ true
encode_fits S t = let (a, b, c) = encode-lengths S t in and_i (and_i (eq-eqb _ _ a) (eq-eqb _ _ b)) (eq-eqb _ _ c)

pub encode-sound-lent : (S : Settings) (t : Tables) → in_range S ≡ true → sound S t ≡ true → sound_lent S (encode S t) ≡ true
encode-sound-lent S t range e =
    (sound_is S (encode S t)).test (stands_sound S (encode S t) t (encode_stands S t) ((soundly_is S t).fact e) (ranged S range).reader)

pub tables_of_encode : (S : Settings) (t : Tables) → sound S t ≡ true → tables_of S (encode S t) ≡ t
tables_of_encode S t e = stands_tables S (encode S t) t (encode_stands S t) (soundly_shape S t ((soundly_is S t).fact e))

pub encode_injective : (S : Settings) (t u : Tables) → sound S t ≡ true → sound S u ≡ true → encode S t ≡ encode S u → t ≡ u
encode_injective S t u a b e = sym (tables_of_encode S t a) ∙ ap (tables_of S) e ∙ tables_of_encode S u b

-- ---- slices that are the encoding of sound tables

module _ (S : Settings) (L : Lent) (t : Tables) (is : Encodes S L t) where
  pub is_tables : tables_of S L ≡ t
  is_tables = ap (tables_of S) is.encoded ∙ tables_of_encode S t is.soundly

  pub is_fits : lengths_fit S L ≡ true
  is_fits = ap (lengths_fit S) is.encoded ∙ encode_fits S t

  pub is_sound-lent : sound_lent S L ≡ true
  is_sound-lent = ap (sound_lent S) is.encoded ∙ encode-sound-lent S t is.range is.soundly

  pub is_fit : Sized S L.longs L.words L.marks
  is_fit = let (a, b, c) = lengths S L is_fits in fit S L.longs L.words L.marks (is.range, a, b, c)

  -- refusals 1, 2 and 3 do not apply
  pub call_is : (step : Tables → Outcome Tables) → call S step L ≡ encoded S (step t)
  unfolding call
  call_is step = rw (is.range, is_fits, is_sound-lent, is_tables)

pub call-on : (S : Settings) (step : Tables → Outcome Tables) (t : Tables) → in_range S ≡ true → sound S t ≡ true
    → call S step (encode S t) ≡ encoded S (step t)
call-on S step t range e = call_is S (encode S t) t (record { range = range; soundly = e; encoded = refl }) step

-- ---- an inner step on slices that are the encoding of sound tables

pub after_encoded : (S : Settings) (L : Lent) (t : Tables) (o : Outcome Tables) → L ≡ encode S t → after L (encoded S o) ≡ encode S (after t o)
after_encoded S L t (refused n) e = e
after_encoded S L t (done es u) e = refl

pub events_encoded : (S : Settings) (o : Outcome Tables) → events_of (encoded S o) ≡ events_of o
events_encoded S (refused n) = refl
events_encoded S (done es t) = refl

module _ (S : Settings) {step : Tables → Outcome Tables} {L : Lent} {r : Reply} {M : Lent} (d : Does S step L r M) (t : Tables) (i : Encodes S L t) where
  pub does_tells : events_told r ≡ events_of (step t)
  does_tells = (d.on t i).tells ∙ events_encoded S (step t)

  pub does_is : sound S (after t (step t)) ≡ true → Encodes S M (after t (step t))
  does_is ok = record { range = i.range; soundly = ok; encoded = (d.on t i).left ∙ after_encoded S L t (step t) i.encoded }
