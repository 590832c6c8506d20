-- Worked examples of heads, and of what a commit may change.
use Rattle.std.proofs.Common.{◌≡◌, ◌≢◌, ℕ, ◌+◌, ◌-◌, ◌<◌, ◌≤◌, [], length, lit<}
use Rattle.std.proofs.Common.{lit≤, refl, sym, subst, inl, inr, ⊎_elim, arith}
use Rattle.sha2.specs.Sha256.{sha256}
use Rattle.sector_disk.specs.rules.DiskImage.{DiskImage, sector_at}
use Rattle.sector_disk.proofs.ExampleLemmas.{byte_of, differ}
use Rattle.disk_layout.specs.declared.head.Head.{Head}
use Rattle.disk_layout.specs.rules.Sectors.{IsComplete, IsNewest}
use Rattle.snapshot.specs.rules.Steps.{IsOutsideArea}
use Rattle.snapshot.specs.laws.Examples.{NextCanFollow, plain_head, with_heads, headless}
use Rattle.snapshot.specs.laws.Examples.{ReadyExamples, areas, area_disk, NoStep, AreaExamples}
use Rattle.snapshot.proofs.AreaLemmas.{newest_complete}

pub next_can_follow : NextCanFollow
next_can_follow geometry g version bytes image new =
    let held = new.holds in
    let head : Head = record {
      version = version;
      length_in_bytes = length bytes;
      digest = sha256 bytes;
      generation = g;
    } in
    let same : g ≡ g + 1 - 1 = omega arith in
    record {
      before = inr (head, subst (λ n. IsNewest image n head) same held.newest);
      none_later = let h = new.heads in omega (arith, h);
    }

-- ---- heads

no_head : (area : ℕ) → IsComplete area [] → ⊥
no_head area c = differ 0 68 (byte_of 0 c.mark) (omega arith)

third_newest : IsNewest (with_heads 2 3) 3 (plain_head 3)
third_newest = record {
  complete = record { mark = refl; place = refl; from_one = lit≤ tt; parity = refl };
  is = refl;
  same = refl;
  newest = λ other. lit< tt;
}

-- before the first one there is none, so these aren't ready
not_fifth : (h : Head) → IsNewest (with_heads 2 3) 4 h → ⊥
not_fifth h newest = differ 2 4 (newest_complete (with_heads 2 3) 4 h newest) (omega arith)

not_second : (h : Head) → IsNewest headless 1 h → ⊥
not_second h newest = no_head 1 newest.complete

pub ready_examples : ReadyExamples
ready_examples = record {
  second_shown = refl;
  first_shown = refl;
  none_shown = refl;
  none_there = record { first = no_head 0; second = no_head 1 };
  none_in_its_area = record {
    first = λ c. differ 0 1 (sym c.parity) (omega arith);
    second = λ c. differ 0 1 c.parity (omega arith);
  };
  first_there = λ none.
      none.first (record { mark = refl; place = refl; from_one = lit≤ tt; parity = refl });
  second_there = λ none.
      none.second (record { mark = refl; place = refl; from_one = lit≤ tt; parity = refl });
  ready_for_the_next = record { before = inr (plain_head 3, third_newest); none_later = lit< tt };
  ready_for_the_first = record {
    before = inl (refl, record { first = no_head 0; second = no_head 1 });
    none_later = lit< tt;
  };
  not_for_the_same = λ r. (let h : 3 < 3 = r.none_later in omega (arith, h));
  not_for_one_later = λ r.
      ⊎_elim (λ first. differ 1 5 (sym first.0) (omega arith))
      (λ later. not_fifth later.0 later.1) r.before;
  not_for_the_second = λ r.
      ⊎_elim (λ first. differ 1 2 (sym first.0) (omega arith))
      (λ later. not_second later.0 later.1) r.before;
}

-- ---- areas

not_five : IsOutsideArea areas 3 5 → ⊥
not_five out = ⊎_elim (λ (h : 5 < 5). omega (arith, h)) (λ (h : 7 ≤ 5). omega (arith, h)) out

not_six : IsOutsideArea areas 3 6 → ⊥
not_six out = ⊎_elim (λ (h : 6 < 5). omega (arith, h)) (λ (h : 7 ≤ 6). omega (arith, h)) out

-- a sector before the area, and not its head
before : (k : ℕ) → k < 5 → IsOutsideArea areas 3 k
before k less = inl less

no_step : (k : ℕ) (new : DiskImage) → k < 5 → k ≢ 2
    → (sector_at new k ≡ sector_at (area_disk [] [] [] []) k → ⊥) → NoStep new
no_step k new less ne changed = record {
  fills = λ f. changed (f.others k (before k less));
  commits = λ bytes c. changed (c.others k (before k less) ne);
  replaces = λ bytes r. changed (r.others k (before k less) ne);
}

pub area_examples : AreaExamples
area_examples = record {
  before_it = inl (lit< tt);
  first_in_it = not_five;
  last_in_it = not_six;
  behind_it = inr (lit≤ tt);
  behind_the_other = inr (lit≤ tt);
  zeros_behind = refl;
  no_zeros = λ h. differ 0 9 (sym (byte_of 1 h)) (omega arith);
  in_the_other_area = λ h. differ 0 7 (byte_of 0 h) (omega arith);
  no_other_area = no_step 4 _ (omega arith) (λ e. differ 2 4 (sym e) (omega arith))
      (λ e. differ 0 7 (sym (byte_of 0 e)) (omega arith));
  no_super = no_step 0 _ (omega arith) (λ e. differ 0 2 e (omega arith))
      (λ e. differ 0 7 (sym (byte_of 0 e)) (omega arith));
  no_other_head = no_step 1 _ (omega arith) (λ e. differ 1 2 e (omega arith))
      (λ e. differ 0 7 (sym (byte_of 0 e)) (omega arith));
  no_more_sectors = record {
    fills = λ f. differ 7 8 (sym f.count) (omega arith);
    commits = λ bytes c. differ 7 8 (sym c.count) (omega arith);
    replaces = λ bytes r. differ 7 8 (sym r.count) (omega arith);
  };
  no_head_yet = λ f.
      differ 0 7 (sym (byte_of 0 (f.others 2 (before 2 (omega arith))))) (omega arith);
}
