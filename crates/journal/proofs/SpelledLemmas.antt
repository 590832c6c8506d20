-- Records that bytes spell, and a rest that begins with none.
use Rattle.std.proofs.Common.{◌≡◌, ◌⊎◌, inl, inr, ℕ, zero, suc, ◌+◌, ◌-◌, ◌^◌, ◌<◌, ◌≤◌, Bool, true}
use Rattle.std.proofs.Common.{false, eqb, leb, cond, Option, Some, None, option_map}
use Rattle.std.proofs.Common.{List, [], ◌∷◌, ◌++◌, length, take, drop, refl, sym, ap, ◌∙◌, subst}
use Rattle.std.proofs.Common.{⊎_elim, arith, length-drop, append_assoc}
use Rattle.std.proofs.lemmas.Bool.{cases_lt, eqb-true, leb-true}
use Rattle.std.proofs.lemmas.Grind.{flat_map-append}
use Rattle.std.proofs.lemmas.List.{take-append-drop, drop-drop, length-take-le, take-append-le}
use Rattle.std.proofs.lemmas.List.{nil_from_length, append-nil}
use Rattle.std.proofs.lemmas.Option.{none-some, same_Some}
use Rattle.std.proofs.Math.Seq.{take-append-add}
use Rattle.std.specs.List.{AllByRecursion}
use Rattle.guest_memory.specs.rules.Bytes.{IsByte, bytes_of, number_of, part}
use Rattle.guest_memory.proofs.ByteLemmas.{bytes_of-number_of}
use Rattle.guest_memory.proofs.Lists.{all_both, all_take, all_drop, number_below}
use Rattle.wasi_abi.specs.declared.version.Version.{Version}
use Rattle.wasi_abi.specs.declared.version.Version.TheVariants.{One, Two}
use Rattle.wasi_abi.specs.rules.Versions.{text_limit, length_bytes}
use Rattle.wasi_abi.specs.rules.Layouts.{u64_bytes}
use Rattle.wasi_abi.specs.declared.answer.Answer.{Answer}
use Rattle.wasi_abi.specs.declared.answer.Answer.TheVariants as answer
use Rattle.disk_layout.specs.rules.Journal.{Record, record_bytes, record_head_bytes, kind_number}
use Rattle.disk_layout.specs.rules.Journal.{payload_of, payload_length}
use Rattle.disk_layout.specs.Scanned.{answer_if, answer_of, record_at, records_at, with_first}
use Rattle.journal.specs.rules.Steps.{ClockFits, RecordFits, AllRecordsFit, records_bytes}
use Rattle.journal.specs.rules.Steps.{BeginsWithRecord, SpellsRecords}
use Rattle.journal.proofs.RecordLemmas.{record_of, record_read, rest_read, cut_none, short_none}
use Rattle.journal.proofs.RecordLemmas.{record_at_parts, none_at}

-- so many whole records, and a rest of another one
record CutRecords (v : Version) (records : List Record) (bytes : List ℕ) : Type 0 where
  count : ℕ
  within : count ≤ length records
  rest : List ℕ
  spelled : bytes ≡ records_bytes v (take count records) ++ rest
  no_record : BeginsWithRecord v rest → ⊥

-- records, and so many of the kept ones
pub record SpellsFront (v : Version) (records kept : List Record) (bytes : List ℕ) : Type 0 where
  pub count : ℕ
  pub within : count ≤ length kept
  pub spells : SpellsRecords v (records ++ take count kept) bytes

-- an answer of this kind and payload
record IsSpelled (v : Version) (kind : ℕ) (payload : List ℕ) (a : Answer) : Type 0 where
  kind_is : kind_number a ≡ kind
  payload_is : payload_of a ≡ payload
  within : length payload ≤ text_limit v
  clock : ClockFits a

module _ (v : Version) where
  -- ---- what begins with no record

  pub not_at_front : (bytes : List ℕ) → record_at v bytes ≡ None → BeginsWithRecord v bytes → ⊥
  not_at_front bytes is begins =
      let read : record_at v bytes ≡ Some begins.first = ap (λ l. record_at v l) begins.spelled
      ∙ record_read v begins.first begins.others begins.fits in
      let both : ◌≡◌ {A = Option Record} None (Some begins.first) = sym is ∙ read in
      none-some begins.first both

  pub nothing_begins : BeginsWithRecord v [] → ⊥
  nothing_begins = not_at_front [] refl

  -- ---- prefixes of the bytes of records

  pub both_fit : (records others : List Record) → AllRecordsFit v records → AllRecordsFit v others
      → AllRecordsFit v (records ++ others)
  both_fit records others fit fit_others = all_both (RecordFits v) records others fit fit_others

  cut_records : (records : List Record) (m : ℕ) → AllRecordsFit v records
      → CutRecords v records (take m (records_bytes v records))
  cut_records [] m fit = record {
    count = 0;
    within = omega arith;
    rest = [];
    spelled = nothing m;
    no_record = nothing_begins;
  }
    where
      nothing : (m : ℕ) → take m (records_bytes v []) ≡ []
      nothing zero = refl
      nothing (suc m) = refl
  cut_records (r ∷ records) m fit =
      ⊎_elim
      (λ (short : m < length (record_bytes v r)).
      record {
        count = 0;
        within = omega arith;
        rest = take m (record_bytes v r);
        spelled = take-append-le m (record_bytes v r) (records_bytes v records) (omega arith);
        no_record = not_at_front (take m (record_bytes v r)) (cut_none v r m fit.0 short);
      })
      (λ (long : length (record_bytes v r) ≤ m).
      let more = m - length (record_bytes v r) in
      let rest = cut_records records more fit.1 in
      let within = rest.within in
      let whole : List ℕ = record_bytes v r in
      record {
        count = suc rest.count;
        within = omega (arith, within);
        rest = rest.rest;
        spelled = ap (λ k. take k (whole ++ records_bytes v records)) (let f : m ≡ length whole
            + more = omega arith in f)
            ∙ take-append-add whole (records_bytes v records) more
            ∙ ap (λ l. whole ++ l) rest.spelled
            ∙ sym (append_assoc whole (records_bytes v (take rest.count records)) rest.rest);
        no_record = rest.no_record;
      })
      (cases_lt m (length (record_bytes v r)))

  pub front_spelled : (records kept : List Record) (c : ℕ) → AllRecordsFit v records
      → AllRecordsFit v kept
      → SpellsFront v records kept (records_bytes v records ++ take c (records_bytes v kept))
  front_spelled records kept c fit fit_kept =
      let cut = cut_records kept c fit_kept in
      let more : List Record = take cut.count kept in
      record {
        count = cut.count;
        within = cut.within;
        spells = record {
          rest = cut.rest;
          spelled = ap (λ l. records_bytes v records ++ l) cut.spelled
              ∙ sym (append_assoc (records_bytes v records) (records_bytes v more) cut.rest)
              ∙ ap (λ l. l ++ cut.rest) (sym (flat_map-append (record_bytes v) records more));
          fit = both_fit records more fit (all_take (RecordFits v) cut.count kept fit_kept);
          no_record = cut.no_record;
        };
      }

  -- ---- one list of records

  -- bytes are those of one list of records alone, and of a rest that begins with none
  same_records : (records others : List Record) (rest more : List ℕ) → AllRecordsFit v records
      → AllRecordsFit v others → (BeginsWithRecord v rest → ⊥) → (BeginsWithRecord v more → ⊥)
      → records_bytes v records ++ rest ≡ records_bytes v others ++ more → records ≡ others
  same_records [] [] rest more fit fits none no_more same = refl
  same_records [] (q ∷ others) rest more fit fits none no_more same = absurd (none (record {
    first = q;
    fits = fits.0;
    others = records_bytes v others ++ more;
    spelled = same ∙ append_assoc (record_bytes v q) (records_bytes v others) more;
  }))
  same_records (r ∷ records) [] rest more fit fits none no_more same = absurd (no_more (record {
    first = r;
    fits = fit.0;
    others = records_bytes v records ++ rest;
    spelled = sym same ∙ append_assoc (record_bytes v r) (records_bytes v records) rest;
  }))
  same_records (r ∷ records) (q ∷ others) rest more fit fits none no_more same =
      let left : List ℕ = records_bytes v records ++ rest in
      let right : List ℕ = records_bytes v others ++ more in
      let both : record_bytes v r ++ left ≡ record_bytes v q ++ right =
      sym (append_assoc (record_bytes v r) (records_bytes v records) rest) ∙ same
      ∙ append_assoc (record_bytes v q) (records_bytes v others) more in
      let first : r ≡ q = same_Some r q (sym (record_read v r left fit.0)
      ∙ ap (λ l. record_at v l) both ∙ record_read v q right fits.0) in
      let behind : left ≡ right = sym (rest_read v r left fit.0)
      ∙ ap (λ l. drop (record_head_bytes v + payload_length v l) l) both
      ∙ rest_read v q right fits.0 in
      ap (λ z. z ∷ records) first
      ∙ ap (λ l. q ∷ l) (same_records records others rest more fit.1 fits.1 none no_more behind)

  -- so they spell one list
  pub spells_one : (records others : List Record) (bytes : List ℕ)
      → SpellsRecords v records bytes → SpellsRecords v others bytes → records ≡ others
  spells_one records others bytes left right =
      same_records records others left.rest right.rest left.fit right.fit left.no_record
      right.no_record (sym left.spelled ∙ right.spelled)

  -- ---- what is read of bytes

  -- which way a test went
  chosen : {A : Type 0} (b : Bool) (x y z : A) → cond b x y ≡ z
      → ((b ≡ true) × (x ≡ z)) ⊎ ((b ≡ false) × (y ≡ z))
  chosen true x y z e = inl (refl, e)
  chosen false x y z e = inr (refl, e)

  answer_there : (b : Bool) (x a : Answer) → answer_if b x ≡ Some a → (b ≡ true) × (x ≡ a)
  answer_there true x a e = (refl, same_Some x a e)
  answer_there false x a e = absurd (none-some a e)

  eight_fit : 8 ≤ text_limit v
  eight_fit = by v
    where
      by : (w : Version) → 8 ≤ text_limit w
      by One = omega arith
      by Two = omega arith

  -- a clock is of eight bytes
  clock_below : (payload : List ℕ) → AllByRecursion IsByte payload → length payload ≡ 8
      → number_of payload < 2 ^ 64
  clock_below payload are size =
      let below : number_of payload < 256 ^ 8 =
      subst (λ (n : ℕ). number_of payload < 256 ^ n) size (number_below payload are) in below

  clock_bytes : (payload : List ℕ) → AllByRecursion IsByte payload → length payload ≡ 8
      → u64_bytes (number_of payload) ≡ payload
  clock_bytes payload are size =
      ap (λ n. bytes_of n (number_of payload)) (sym size) ∙ bytes_of-number_of payload are

  module _ (kind : ℕ) (payload : List ℕ) (are : AllByRecursion IsByte payload) where
    text_spelled : (n : ℕ) (x a : Answer) → eqb kind n ≡ true → kind_number x ≡ n
        → payload_of x ≡ payload → ClockFits x
        → answer_if (leb (length payload) (text_limit v)) x ≡ Some a
        → IsSpelled v kind payload a
    text_spelled n x a here number same clock e =
        let there = answer_there (leb (length payload) (text_limit v)) x a e in
        subst (λ (q : Answer). IsSpelled v kind payload q) there.1 (record {
          kind_is = number ∙ sym (eqb-true kind n here);
          payload_is = same;
          within = leb-true (length payload) (text_limit v) there.0;
          clock = clock;
        })

    clock_spelled : (n : ℕ) (x a : Answer) → eqb kind n ≡ true → kind_number x ≡ n
        → (length payload ≡ 8 → payload_of x ≡ payload) → (length payload ≡ 8 → ClockFits x)
        → answer_if (eqb (length payload) 8) x ≡ Some a → IsSpelled v kind payload a
    clock_spelled n x a here number same clock e =
        let there = answer_there (eqb (length payload) 8) x a e in
        let size : length payload ≡ 8 = eqb-true (length payload) 8 there.0 in
        subst (λ (q : Answer). IsSpelled v kind payload q) there.1 (record {
          kind_is = number ∙ sym (eqb-true kind n here);
          payload_is = same size;
          within = let le = eight_fit in omega (arith, le, size);
          clock = clock size;
        })

    end_spelled : (a : Answer) → eqb kind 2 ≡ true
        → answer_if (eqb (length payload) 0) answer.End ≡ Some a → IsSpelled v kind payload a
    end_spelled a here e =
        let there = answer_there (eqb (length payload) 0) answer.End a e in
        let size : length payload ≡ 0 = eqb-true (length payload) 0 there.0 in
        subst (λ (q : Answer). IsSpelled v kind payload q) there.1 (record {
          kind_is = sym (eqb-true kind 2 here);
          payload_is = sym (nil_from_length payload size);
          within = let le = eight_fit in omega (arith, le, size);
          clock = tt;
        })

    answer_spelled : (a : Answer) → answer_of (text_limit v) kind payload ≡ Some a
        → IsSpelled v kind payload a
    answer_spelled a e =
        ⊎_elim (λ request. text_spelled 1 (answer.Request payload) a request.0 refl refl tt
        request.1)
        (λ no_request.
        ⊎_elim (λ end. end_spelled a end.0 end.1)
        (λ no_end.
        ⊎_elim (λ time. clock_spelled 3 (answer.Realtime (number_of payload)) a time.0 refl
        (clock_bytes payload are) (clock_below payload are) time.1)
        (λ no_time.
        ⊎_elim (λ count. clock_spelled 4 (answer.Monotonic (number_of payload)) a count.0 refl
        (clock_bytes payload are) (clock_below payload are) count.1)
        (λ no_count.
        ⊎_elim (λ random. text_spelled 5 (answer.Random payload) a random.0 refl refl tt
        random.1)
        (λ none. absurd (none-some a none.1))
        (chosen (eqb kind 5) _ _ _ no_count.1))
        (chosen (eqb kind 4) _ _ _ no_time.1))
        (chosen (eqb kind 3) _ _ _ no_end.1))
        (chosen (eqb kind 2) _ _ _ no_request.1))
        (chosen (eqb kind 1) _ _ _ e)

  mapped : (n : ℕ) (o : Option Answer) (r : Record) → option_map (record_of n) o ≡ Some r
      → (a : Answer) × (o ≡ Some a) × (record_of n a ≡ r)
  mapped n None r e = absurd (none-some r e)
  mapped n (Some a) r e = (a, refl, same_Some (record_of n a) r e)

  -- the bytes of a record, part by part, before others
  joined : (kind : ℕ) (s f p x : List ℕ)
      → (kind ∷ (s ++ (f ++ p))) ++ x ≡ kind ∷ (s ++ (f ++ (p ++ x)))
  joined kind s f p x = ap (λ l. kind ∷ l) (append_assoc s (f ++ p) x
      ∙ ap (λ l. s ++ l) (append_assoc f p x))

  -- the parts of bytes that are long enough
  parted : (kind : ℕ) (bytes : List ℕ) (len : ℕ)
      → kind ∷ (take 8 bytes ++ (part (kind ∷ bytes) 9 (length_bytes v)
      ++ (part (kind ∷ bytes) (record_head_bytes v) len
      ++ drop (record_head_bytes v + len) (kind ∷ bytes)))) ≡ kind ∷ bytes
  parted kind bytes len =
      let all : List ℕ = kind ∷ bytes in
      let head = record_head_bytes v in
      let size = length_bytes v in
      let third : take len (drop head all) ++ drop (head + len) all ≡ drop head all =
      ap (λ l. take len (drop head all) ++ l) (sym (drop-drop len head all))
      ∙ take-append-drop len (drop head all) in
      let second : take size (drop 9 all) ++ drop head all ≡ drop 9 all =
      ap (λ l. take size (drop 9 all) ++ l) (sym (drop-drop size 9 all))
      ∙ take-append-drop size (drop 9 all) in
      ap (λ l. kind ∷ (take 8 bytes ++ (take size (drop 9 all) ++ l))) third
      ∙ ap (λ l. kind ∷ (take 8 bytes ++ l)) second
      ∙ ap (λ l. kind ∷ l) (take-append-drop 8 bytes)

  -- a record that is read fits, and its bytes are at the front
  of_parts : (kind : ℕ) (bytes : List ℕ) (a : Answer) → AllByRecursion IsByte (kind ∷ bytes)
      → record_head_bytes v + payload_length v (kind ∷ bytes) ≤ length (kind ∷ bytes)
      → IsSpelled v kind (part (kind ∷ bytes) (record_head_bytes v)
      (payload_length v (kind ∷ bytes))) a
      → RecordFits v (record_of (number_of (take 8 bytes)) a)
      × (record_bytes v (record_of (number_of (take 8 bytes)) a)
      ++ drop (record_head_bytes v + payload_length v (kind ∷ bytes)) (kind ∷ bytes)
      ≡ kind ∷ bytes)
  of_parts kind bytes a are whole spelled =
      let all : List ℕ = kind ∷ bytes in
      let head = record_head_bytes v in
      let size = length_bytes v in
      let len = payload_length v all in
      let step : List ℕ = take 8 bytes in
      let field : List ℕ = part all 9 size in
      let payload : List ℕ = part all head len in
      let rest : List ℕ = drop (head + len) all in
      let eight : length step ≡ 8 = length-take-le 8 bytes (omega arith) in
      let of_field : length field ≡ size =
      length-take-le size (drop 9 all) (let l = length-drop 9 all in omega (arith, l, whole)) in
      let of_payload : length payload ≡ len =
      length-take-le len (drop head all) (let l = length-drop head all in omega (arith, l, whole))
      in
      let step_bytes : AllByRecursion IsByte step = all_take IsByte 8 bytes are.1 in
      let field_bytes : AllByRecursion IsByte field =
      all_take IsByte size (drop 9 all) (all_drop IsByte 9 all are) in
      let step_is : u64_bytes (number_of step) ≡ step =
      ap (λ n. bytes_of n (number_of step)) (sym eight) ∙ bytes_of-number_of step step_bytes in
      let field_is : bytes_of size (length payload) ≡ field =
      ap (λ n. bytes_of size n) of_payload ∙ ap (λ n. bytes_of n len) (sym of_field)
      ∙ bytes_of-number_of field field_bytes in
      let laid : ℕ → List ℕ → List ℕ → List ℕ → List ℕ =
      λ k s f p. (k ∷ (s ++ (f ++ p))) ++ rest in
      let long = ap length spelled.payload_is in
      let limit = spelled.within in (
        record {
          step = clock_below step step_bytes eight;
          payload = omega (arith, long, limit);
          clock = spelled.clock;
        },
        ap (λ k. laid k (u64_bytes (number_of step)) (bytes_of size (length (payload_of a)))
            (payload_of a)) spelled.kind_is
            ∙ ap (λ q. laid kind (u64_bytes (number_of step)) (bytes_of size (length q)) q)
            spelled.payload_is
            ∙ ap (λ s. laid kind s (bytes_of size (length payload)) payload) step_is
            ∙ ap (λ f. laid kind step f payload) field_is
            ∙ joined kind step field payload rest ∙ parted kind bytes len,
      )

  spelled_at : (bytes : List ℕ) (r : Record) → AllByRecursion IsByte bytes
      → record_at v bytes ≡ Some r → RecordFits v r
      × (record_bytes v r ++ drop (record_head_bytes v + payload_length v bytes) bytes ≡ bytes)
  spelled_at [] r are is = absurd (none-some r is)
  spelled_at (kind ∷ bytes) r are is =
      let all : List ℕ = kind ∷ bytes in
      let head = record_head_bytes v in
      let len = payload_length v all in
      let payload : List ℕ = part all head len in
      ⊎_elim
      (λ (short : length all < head + len).
      absurd (none-some r (sym (short_none v all short) ∙ is)))
      (λ (whole : head + len ≤ length all).
      let read = mapped (number_of (take 8 bytes)) (answer_of (text_limit v) kind payload) r
      (sym (record_at_parts v all whole) ∙ is) in
      let spelled = answer_spelled kind payload (all_take IsByte len (drop head all)
      (all_drop IsByte head all are)) read.0 read.1 in
      subst (λ (q : Record). RecordFits v q × (record_bytes v q ++ drop (head + len) all ≡ all))
      read.2 (of_parts kind bytes read.0 are whole spelled))
      (cases_lt (length all) (head + len))

  -- a record more is read
  pub spelled_on : (bytes : List ℕ) (start : ℕ) (records : List Record) (r : Record)
      → AllByRecursion IsByte bytes → bytes ≡ records_bytes v records ++ drop start bytes
      → AllRecordsFit v records → record_at v (drop start bytes) ≡ Some r
      → (bytes ≡ records_bytes v (records ++ r ∷ [])
      ++ drop (start + (record_head_bytes v + payload_length v (drop start bytes))) bytes)
      × AllRecordsFit v (records ++ r ∷ [])
  spelled_on bytes start records r are spelled fit is =
      let rest : List ℕ = drop start bytes in
      let k = record_head_bytes v + payload_length v rest in
      let read = spelled_at rest r (all_drop IsByte start bytes are) is in
      let one : records_bytes v (records ++ r ∷ []) ≡ records_bytes v records ++ record_bytes v r =
      flat_map-append (record_bytes v) records (r ∷ [])
      ∙ ap (λ l. records_bytes v records ++ l) (append-nil (record_bytes v r)) in (
        spelled ∙ ap (λ l. records_bytes v records ++ l) (sym read.1)
            ∙ sym (append_assoc (records_bytes v records) (record_bytes v r) (drop k rest))
            ∙ ap (λ l. l ++ drop k rest) (sym one)
            ∙ ap (λ l. records_bytes v (records ++ r ∷ []) ++ l) (drop-drop k start bytes),
        both_fit records (r ∷ []) fit (read.0, tt),
      )

  -- what a scan reads of bytes
  pub records_spelled : (n : ℕ) (bytes : List ℕ) → length bytes ≤ n
      → AllByRecursion IsByte bytes → SpellsRecords v (records_at v n bytes) bytes
  records_spelled zero bytes le are = record {
    rest = bytes;
    spelled = refl;
    fit = tt;
    no_record = subst (λ (l : List ℕ). BeginsWithRecord v l → ⊥)
        (sym (nil_from_length bytes (omega (arith, le)))) nothing_begins;
  }
  records_spelled (suc n) bytes le are =
      next (record_at v bytes) refl (λ more less all. records_spelled n more less all)
    where
      next : (o : Option Record) → record_at v bytes ≡ o
          → ((more : List ℕ) → length more ≤ n → AllByRecursion IsByte more
          → SpellsRecords v (records_at v n more) more)
          → SpellsRecords v (records_at v (suc n) bytes) bytes
      next None is again =
          subst (λ (l : List Record). SpellsRecords v l bytes) (sym (none_at v (suc n) bytes is))
          (record {
            rest = bytes;
            spelled = refl;
            fit = tt;
            no_record = not_at_front bytes is;
          })
      next (Some r) is again =
          let read = spelled_at bytes r are is in
          let k = record_head_bytes v + payload_length v bytes in
          let more : List ℕ = drop k bytes in
          let less = length-drop k bytes in
          let rest = again more (omega (arith, less, le)) (all_drop IsByte k bytes are) in
          let others : List Record = records_at v n more in
          subst (λ (o : Option Record). SpellsRecords v (with_first o others) bytes) (sym is)
          (record {
            rest = rest.rest;
            spelled = sym read.1 ∙ ap (λ l. record_bytes v r ++ l) rest.spelled
                ∙ sym (append_assoc (record_bytes v r) (records_bytes v others) rest.rest);
            fit = (read.0, rest.fit);
            no_record = rest.no_record;
          })
