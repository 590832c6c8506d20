-- Facts that are listed and printed one after another.
use Rattle.std.proofs.Common.{◌≡◌, ℕ, ◌+◌, ◌<◌, List, [], ◌∷◌, ◌++◌, length, map, take, get_or}
use Rattle.std.proofs.Common.{Option, String, Global, refl, sym, ap, ◌∙◌, subst, append_assoc}
use Rattle.std.specs.Prelude.{Some, slice_get}
use Rattle.std.specs.List.{flat_map}
use Rattle.std.specs.Io.KnownBytes.{Appends}
use Rattle.std.proofs.lemmas.List.{append-nil, map-append, map_more}
use Rattle.std.proofs.lemmas.Grind.{flat_map-append}
use Rattle.std.proofs.lemmas.Option.{slice_get_within, get_or_from_slice_get}
use Rattle.serde_json.specs.Data.{Data, Members, put}
use Rattle.serde_json.specs.View.{members_view, view}
use Rattle.serde_json.specs.declared.value.Value.{Value}
use Rattle.command_words.proofs.LineLemmas.Printed.{appends_both}
use Rattle.disk_commands.specs.declared.inspecting.fact.Fact.{Fact as LentFact}
use Rattle.disk_commands.specs.declared.inspecting.fact.Field.{Field as LentField}
use Rattle.disk_commands.specs.FactViews.{Adds, added_to, facts_of, field_of, scalar_of}
use Rattle.disk_commands.specs.Members.{Puts}
use Rattle.disk_commands.specs.rules.Facts.{Fact, Member, field_member, put_all, scalar_data}

-- ---- lists

added_both : (facts first second : List Fact)
    → added_to facts (first ++ second) ≡ added_to (added_to facts first) second
added_both facts [] second = refl
added_both facts (fact ∷ first) second = added_both (facts ++ fact ∷ []) first second

-- facts that were added after others
pub adds_both : (a b c : List LentFact) (first second : List Fact) → Adds a b first
    → Adds b c second → Adds a c (first ++ second)
adds_both a b c first second one two =
    two ∙ ap (λ facts. added_to facts second) one ∙ sym (added_both (facts_of a) first second)

-- they are after those
pub added_after : (facts added : List Fact) → added_to facts added ≡ facts ++ added
added_after facts [] = sym (append-nil facts)
added_after facts (fact ∷ added) =
    added_after (facts ++ fact ∷ []) added ∙ append_assoc facts (fact ∷ []) added

-- ---- members

put_all_both : (first second : List Member) (ms : Members)
    → put_all (first ++ second) ms ≡ put_all second (put_all first ms)
put_all_both [] second ms = refl
put_all_both (m ∷ first) second ms = put_all_both first second (put m.0 m.1 ms)

-- members that were put in after others
puts_both : (a b c : List (String Global × Value)) (first second : List Member)
    → Puts a b first → Puts b c second → Puts a c (first ++ second)
puts_both a b c first second one two =
    two ∙ ap (put_all second) one ∙ sym (put_all_both first second (members_view a))

-- a named scalar that was put in
pub field_put : (field : LentField) (before after : List (String Global × Value)) (v : Value)
    → members_view after ≡ put field.name.now (view v) (members_view before)
    → view v ≡ scalar_data (scalar_of field.scalar)
    → Puts before after (field_member (field_of field) ∷ [])
field_put field before after v is seen =
    is ∙ ap (λ (d : Data). put field.name.now d (members_view before)) seen

-- ---- one item more

module _ {X Y : Type 0} (seen : X → Y) (all : List X) (i : ℕ) (one : X) where
  -- as it is seen
  one_more : i < length all → one ≡ get_or all i one
      → map seen (take (i + 1) all) ≡ map seen (take i all) ++ seen one ∷ []
  one_more within is =
      map_more seen all i one within
      ∙ ap (λ (x : X). map seen (take i all) ++ seen x ∷ []) (sym is)

  -- spelled
  pub one_more_spelled : (spelled : Y → List ℕ) (a b c : Option (List ℕ)) → i < length all
      → one ≡ get_or all i one → Appends a b (flat_map spelled (map seen (take i all)))
      → Appends b c (spelled (seen one))
      → Appends a c (flat_map spelled (map seen (take (i + 1) all)))
  one_more_spelled spelled a b c within is so_far told =
      let before : List Y = map seen (take i all) in
      subst (λ t. Appends a c t)
      (sym (ap (flat_map spelled) (one_more within is)
      ∙ flat_map-append spelled before (seen one ∷ [])
      ∙ ap (λ t. flat_map spelled before ++ t) (append-nil (spelled (seen one)))))
      (appends_both a b c (flat_map spelled before) (spelled (seen one)) so_far told)

  -- put into a map
  pub one_more_put : (member : Y → Member) (a b c : List (String Global × Value)) → i < length all
      → one ≡ get_or all i one → Puts a b (map member (map seen (take i all)))
      → Puts b c (member (seen one) ∷ []) → Puts a c (map member (map seen (take (i + 1) all)))
  one_more_put member a b c within is so_far told =
      let before : List Y = map seen (take i all) in
      subst (λ ms. Puts a c ms)
      (sym (ap (map member) (one_more within is) ∙ map-append member before (seen one ∷ [])))
      (puts_both a b c (map member before) (member (seen one) ∷ []) so_far told)

-- ---- one value more

module _ {X Y Z : Type 0} (value : X → Z) (seen : Y → Z) (all : List X) (i : ℕ) (one : X)
    (old new : List Y) (v : Y) where
  -- of an item at this place
  pub one_more_pushed : i < length all → one ≡ get_or all i one
      → map seen old ≡ map value (take i all) → new ≡ old ++ v ∷ [] → seen v ≡ value one
      → map seen new ≡ map value (take (i + 1) all)
  one_more_pushed within is so_far pushed same =
      ap (map seen) pushed ∙ map-append seen old (v ∷ []) ∙ ap (λ zs. zs ++ seen v ∷ []) so_far
      ∙ ap (λ z. map value (take i all) ++ z ∷ []) same ∙ sym (one_more value all i one within is)

  -- of an item that is there
  pub one_got_pushed : slice_get all i ≡ Some one → map seen old ≡ map value (take i all)
      → new ≡ old ++ v ∷ [] → seen v ≡ value one
      → map seen new ≡ map value (take (i + 1) all)
  one_got_pushed at so_far pushed same =
      one_more_pushed (slice_get_within all i one at)
      (sym (get_or_from_slice_get all i one one at)) so_far pushed same
