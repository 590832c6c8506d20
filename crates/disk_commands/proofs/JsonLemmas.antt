-- Facts as JSON: texts, and values without floats.
use Rattle.std.proofs.Common.{◌≡◌, ℕ, Bool, ◌||◌, cond, true, false, List, [], ◌∷◌, map, refl}
use Rattle.std.proofs.Common.{Ordering, Less, Equal, Greater, nat_cmp}
use Rattle.std.specs.Cmp.Lexicographic.{slice_cmp}
use Rattle.std.specs.Ordering.{match_ordering}
use Rattle.std.specs.Str.{IsUtf8, is_utf8}
use Rattle.std.proofs.lemmas.Bool.{cond-true}
use Rattle.std.proofs.lemmas.Str.{IsUtf8-from_is_utf8, is_utf8-from_IsUtf8}
use Rattle.serde_json.specs.Data.{Data, Members, no_members, member, put, string}
use Rattle.serde_json.specs.Written.{has_float, items_have_float, members_have_float}
use Rattle.serde_json.specs.View.{items_of}
use Rattle.disk_commands.specs.rules.Facts.{Scalar, Number, Word, Text, Field, FactValue, Plain}
use Rattle.disk_commands.specs.rules.Facts.{Tagged, Fields, Fact, Single, Listed, Member, put_all}
use Rattle.disk_commands.specs.rules.Facts.{list_data, number_data, text_data, scalar_data}
use Rattle.disk_commands.specs.rules.Facts.{field_member, value_data, fact_member, facts_data}

-- ---- texts

-- a text of UTF-8 is a string
pub utf8_text : (text : List ℕ) → IsUtf8 text → text_data text ≡ string text
utf8_text text utf8 =
    cond-true (is_utf8 text) (string text) (list_data number_data text)
    (is_utf8-from_IsUtf8 text utf8)

-- another one is the list of its bytes
pub other_text : (text : List ℕ) → (IsUtf8 text → ⊥)
    → text_data text ≡ list_data number_data text
other_text text other = go (is_utf8 text) refl
  where
    go : (b : Bool) → is_utf8 text ≡ b
        → cond b (string text) (list_data number_data text) ≡ list_data number_data text
    go true is = absurd (other (IsUtf8-from_is_utf8 text is))
    go false is = refl

-- ---- values without floats

or_none : (a b : Bool) → a ≡ false → b ≡ false → (a || b) ≡ false
or_none false b one two = two
or_none true b one two = one

or_first : (a b : Bool) → (a || b) ≡ false → a ≡ false
or_first false b none = refl
or_first true b none = none

or_second : (a b : Bool) → (a || b) ≡ false → b ≡ false
or_second false b none = none
or_second true b none = absurd cc

put_plain : (k : List ℕ) (d : Data) (ms : Members) → has_float d ≡ false
    → members_have_float ms ≡ false → members_have_float (put k d ms) ≡ false
put_plain k d no_members plain others = or_none (has_float d) false plain refl
put_plain k d (member l e ms) plain others =
    go (slice_cmp nat_cmp k l)
    (put_plain k d ms plain (or_second (has_float e) (members_have_float ms) others))
  where
    go : (o : Ordering) → members_have_float (put k d ms) ≡ false
        → members_have_float (match_ordering o (member k d (member l e ms)) (member l d ms)
        (member l e (put k d ms))) ≡ false
    go Less later = or_none (has_float d) (members_have_float (member l e ms)) plain others
    go Equal later =
        or_none (has_float d) (members_have_float ms) plain
        (or_second (has_float e) (members_have_float ms) others)
    go Greater later =
        or_none (has_float e) (members_have_float (put k d ms))
        (or_first (has_float e) (members_have_float ms) others) later

-- members without floats, made of any items
all_plain : {X : Type 0} (made : X → Member) (xs : List X) (ms : Members)
    → ((x : X) → has_float (made x).1 ≡ false) → members_have_float ms ≡ false
    → members_have_float (put_all (map made xs) ms) ≡ false
all_plain made [] ms each others = others
all_plain made (x ∷ xs) ms each others =
    let m : Member = made x in
    all_plain made xs (put m.0 m.1 ms) each (put_plain m.0 m.1 ms (each x) others)

list_plain : {X : Type 0} (value : X → Data) (xs : List X)
    → ((x : X) → has_float (value x) ≡ false) → has_float (list_data value xs) ≡ false
list_plain value [] each = refl
list_plain value (x ∷ xs) each =
    or_none (has_float (value x)) (items_have_float (items_of (map value xs))) (each x)
    (list_plain value xs each)

text_plain : (text : List ℕ) → has_float (text_data text) ≡ false
text_plain text = go (is_utf8 text)
  where
    go : (b : Bool)
        → has_float (cond b (string text) (list_data number_data text)) ≡ false
    go true = refl
    go false = list_plain number_data text (λ n. refl)

scalar_plain : (scalar : Scalar) → has_float (scalar_data scalar) ≡ false
scalar_plain (Number n) = refl
scalar_plain (Word word) = refl
scalar_plain (Text text) = text_plain text

value_plain : (value : FactValue) → has_float (value_data value) ≡ false
value_plain (Plain scalar) = scalar_plain scalar
value_plain (Tagged field) =
    put_plain field.0 (scalar_data field.1) no_members (scalar_plain field.1) refl
value_plain (Fields fields) =
    all_plain field_member fields no_members (λ (f : Field). scalar_plain f.1) refl

fact_plain : (fact : Fact) → has_float (fact_member fact).1 ≡ false
fact_plain (Single name value) = value_plain value
fact_plain (Listed each all values) = list_plain value_data values value_plain

-- what is printed of facts has none
pub facts_plain : (facts : List Fact) → has_float (facts_data facts) ≡ false
facts_plain facts = all_plain fact_member facts no_members fact_plain refl
