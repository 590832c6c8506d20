-- The name of a function, looked for in a map, in its subsections and in sections.
use Rattle.std.proofs.Common.{◌≡◌, ℕ, ◌+◌, ◌<◌, ◌≤◌, List, [], ◌∷◌, ◌++◌, length, Option, Some}
use Rattle.std.proofs.Common.{None, refl, sym, ap, subst, ◌∙◌, arith}
use Rattle.std.specs.Prelude.{MatchOption, codes}
use Rattle.std.specs.List.{AllByRecursion}
use Rattle.std.proofs.lemmas.List.{length-append}
use Rattle.wasm_syntax.specs.rules.Items.{AreItems, IsName}
use Rattle.wasm_syntax.specs.rules.Modules.{Section, IsSection, preamble}
use Rattle.wasm_syntax.specs.laws.ReadingItems.{fixed_at, leb_u32_at, name_at}
use Rattle.wasm_syntax.specs.laws.ReadingModules.{section_at}
use Rattle.wasm_syntax.proofs.Grammar.Exact.{Reads, bind_some, carry, parts}
use Rattle.wasm_syntax.proofs.Grammar.Integers.{Reads-u32_at, fixed_sound, fixed_complete}
use Rattle.wasm_syntax.proofs.Grammar.Vectors.{Reads-name_at}
use Rattle.wasm_syntax.proofs.Grammar.Rising.{Reads-section_at}
use Rattle.wasm_places.specs.declared.reader.Part.{Part}
use Rattle.wasm_places.specs.Around.{section_with}
use Rattle.wasm_places.specs.FunctionNames.{InSection, InSubsections, function_name_at}
use Rattle.wasm_places.specs.rules.FunctionNames.{FunctionName, HasSection, IsFunctionName}
use Rattle.wasm_places.specs.rules.FunctionNames.{IsGoodName, IsGoodOf, IsNameSection, LacksGood}
use Rattle.wasm_places.specs.rules.FunctionNames.{MapNames, ModuleNames, SectionNames}
use Rattle.wasm_places.proofs.Walks.{none_some, one_more}

-- what both arms of an answer lead to
pub match_map : {X : Type 0} {A B : Type 0} {P Q : X → Type 0} (o : Option X) → (A → B)
    → ((x : X) → P x → Q x) → MatchOption o A P → MatchOption o B Q
match_map (Some x) none some h = some x h
match_map None none some h = none h

-- ---- an entry of a map

pub Reads-function_name_at : Reads IsFunctionName function_name_at
unfolding function_name_at
Reads-function_name_at = record {
  sound = λ bytes n rest e.
      let function = bind_some (leb_u32_at bytes) _ _ e in
      let name = bind_some (name_at function.0.1) _ _ function.2 in
      let made : FunctionName = record { function = function.0.0; name = name.0.0 } in
      carry (IsFunctionName bytes) made n name.0.1 rest name.2 (
        function.0.1,
        Reads-u32_at.sound bytes function.0.0 function.0.1 function.1,
        Reads-name_at.sound function.0.1 name.0.0 name.0.1 name.1,
      );
  complete = λ bytes n rest h.
      rw (
        Reads-u32_at.complete bytes n.function h.0 h.1,
        Reads-name_at.complete h.0 n.name rest h.2,
      ) refl;
}

-- all of these have lower numbers
abbrev pub AreLower : ℕ → List FunctionName → Type 0
AreLower function names = AllByRecursion (λ n. n.function < function) names

lower_more : (function : ℕ) (names : List FunctionName) (n : FunctionName)
    → AreLower function names → n.function < function → AreLower function (names ++ n ∷ [])
lower_more function [] n all one = (one, tt)
lower_more function (m ∷ names) n all one = (all.0, lower_more function names n all.1 one)

-- ---- what is ahead in a map

-- so many entries were read, and behind lower ones here is that of the function
pub record IsAhead (function count number : ℕ) (now name : List ℕ) : Type 0 where
  pub before : List FunctionName
  pub from : List ℕ
  pub earlier : AreItems IsFunctionName now before from
  pub lower : AreLower function before
  pub rest : List ℕ
  pub is : IsFunctionName from (record { function = function; name = name }) rest
  pub is_counted : number + length before < count

module _ (function count number : ℕ) (now : List ℕ) where
  -- the entry that is read is that of the function, or it is a lower one
  ahead_read : (n : FunctionName) (next name : List ℕ) → function_name_at now ≡ Some (n, next)
      → IsAhead function count number now name → (P : Type 0)
      → (n.function ≡ function → n.name ≡ name → P)
      → (n.function < function → IsAhead function count (number + 1) next name → P) → P
  ahead_read n next name read h P here later = by_before h.before h.earlier h.lower h.is_counted
    where
      by_before : (before : List FunctionName) → AreItems IsFunctionName now before h.from
          → AreLower function before → number + length before < count → P
      by_before [] are lower counted =
          let wanted : FunctionName = record { function = function; name = name } in
          let is : IsFunctionName now wanted h.rest =
          subst (λ (b : List ℕ). IsFunctionName b wanted h.rest) are h.is in
          let same = parts n wanted next h.rest
          (sym read ∙ Reads-function_name_at.complete now wanted h.rest is) in
          here (ap (λ (m : FunctionName). m.function) same.0)
          (ap (λ (m : FunctionName). m.name) same.0)
      by_before (z ∷ before) are lower counted =
          let same = parts n z next are.0
          (sym read ∙ Reads-function_name_at.complete now z are.0 are.1) in
          later
          (subst (λ (m : FunctionName). m.function < function) (sym same.0) lower.0)
          (record {
            before = before;
            from = h.from;
            earlier = subst (λ (b : List ℕ). AreItems IsFunctionName b before h.from)
                (sym same.1) are.2;
            lower = lower.1;
            rest = h.rest;
            is = h.is;
            is_counted = omega (arith, counted);
          })

  ahead_unread : (name : List ℕ) → function_name_at now ≡ None
      → IsAhead function count number now name → ⊥
  ahead_unread name none h = by_before h.before h.earlier where
    by_before : (before : List FunctionName) → AreItems IsFunctionName now before h.from → ⊥
    by_before [] are =
        let wanted : FunctionName = record { function = function; name = name } in
        let is : IsFunctionName now wanted h.rest =
        subst (λ (b : List ℕ). IsFunctionName b wanted h.rest) are h.is in
        none_some (wanted, h.rest)
        (sym none ∙ Reads-function_name_at.complete now wanted h.rest is)
    by_before (z ∷ before) are =
        none_some (z, are.0)
        (sym none ∙ Reads-function_name_at.complete now z are.0 are.1)

-- ---- what the loop over a map has

-- so many entries of lower numbers were read
pub record NamesSoFar (map : List ℕ) (function count number : ℕ) (now : List ℕ) : Type 0 where
  pub items : List ℕ
  pub counted : leb_u32_at map ≡ Some (count, items)
  pub front : List FunctionName
  pub are : AreItems IsFunctionName items front now
  pub lower : AreLower function front
  pub number_is : length front ≡ number
  pub remains : (name : List ℕ) → MapNames map function name
      → IsAhead function count number now name

module _ (map : List ℕ) (function : ℕ) where
  pub no_count : leb_u32_at map ≡ None → LacksGood (MapNames map function)
  no_count none name h =
      none_some (h.0.count, h.0.items)
      (sym none ∙ Reads-u32_at.complete map h.0.count h.0.items h.0.counted)

  pub names_begin : (count : ℕ) (items : List ℕ) → leb_u32_at map ≡ Some (count, items)
      → NamesSoFar map function count 0 items
  names_begin count items counted = record {
    items = items;
    counted = counted;
    front = [];
    are = refl;
    lower = tt;
    number_is = refl;
    remains = λ name h.
        let same = parts h.count count h.items items
        (sym (Reads-u32_at.complete map h.count h.items h.counted) ∙ counted) in record {
          before = h.before;
          from = h.from;
          earlier = subst (λ (b : List ℕ). AreItems IsFunctionName b h.before h.from)
              same.1 h.earlier;
          lower = h.lower;
          rest = h.rest;
          is = h.is;
          is_counted = omega (arith, h.is_counted, same.0);
        };
  }

  module _ (count number : ℕ) (now : List ℕ) (s : NamesSoFar map function count number now) where
    pub names_go_on : (n : FunctionName) (next : List ℕ) → function_name_at now ≡ Some (n, next)
        → n.function < function → NamesSoFar map function count (number + 1) next
    names_go_on n next read below = record {
      items = s.items;
      counted = s.counted;
      front = s.front ++ n ∷ [];
      are = one_more IsFunctionName function_name_at Reads-function_name_at s.items s.front now n
          next s.are (Reads-function_name_at.sound now n next read);
      lower = lower_more function s.front n s.lower below;
      number_is = omega (arith, length-append s.front (n ∷ []), s.number_is);
      remains = λ name h.
          ahead_read function count number now n next name read (s.remains name h)
          (IsAhead function count (number + 1) next name)
          (λ is named. absurd (omega (arith, is, below)))
          (λ lower later. later);
    }

    -- the entry isn't lower: it is that of the function, or none is
    pub name_found : (n : FunctionName) (next : List ℕ) → function_name_at now ≡ Some (n, next)
        → n.function ≡ function → number < count → (name : List ℕ) → name ≡ n.name
        → IsGoodName name → IsGoodOf (MapNames map function) name
    name_found n next read is below name named good = (
      record {
        count = count;
        items = s.items;
        counted = Reads-u32_at.sound map count s.items s.counted;
        before = s.front;
        from = now;
        earlier = s.are;
        lower = s.lower;
        rest = next;
        is = subst (λ (m : List ℕ). IsFunctionName now
            (record { function = function; name = m }) next) (sym named)
            (subst (λ (f : ℕ). IsFunctionName now (record { function = f; name = n.name }) next)
            is (Reads-function_name_at.sound now n next read));
        is_counted = omega (arith, s.number_is, below);
      },
      good,
    )

    pub no_name_here : (n : FunctionName) (next : List ℕ)
        → function_name_at now ≡ Some (n, next) → function ≤ n.function
        → (n.function ≡ function → IsGoodName n.name → ⊥) → LacksGood (MapNames map function)
    no_name_here n next read above bad name h =
        ahead_read function count number now n next name read (s.remains name h.0) ⊥
        (λ is named. bad is (subst (λ (m : List ℕ). IsGoodName m) (sym named) h.1))
        (λ lower later. omega (arith, lower, above))

    pub name_unread : function_name_at now ≡ None → LacksGood (MapNames map function)
    name_unread none name h =
        ahead_unread function count number now name none (s.remains name h.0)

    pub no_name_left : count ≤ number → LacksGood (MapNames map function)
    no_name_left done name h =
        let ahead = s.remains name h.0 in
        omega (arith, done, ahead.is_counted)

-- ---- what the loop over sections has

-- no section that was read has a good name
pub record SectionsSoFar (P : List ℕ → Section → Type 0) (all now : List ℕ) : Type 0 where
  pub front : List Section
  pub are : AreItems IsSection all front now
  pub remains : (name : List ℕ) → IsGoodName name → HasSection (P name) all
      → HasSection (P name) now

abbrev pub HasIn : (List ℕ → Section → Type 0) → List ℕ → List ℕ → Type 0
HasIn P all name = HasSection (P name) all

module _ (P : List ℕ → Section → Type 0) where
  pub sections_begin : (all : List ℕ) → SectionsSoFar P all all
  sections_begin all = record {
    front = [];
    are = refl;
    remains = λ name good h. h;
  }

  -- the section that is read has the name, or one behind it
  has_read : (now : List ℕ) (s : Section) (next name : List ℕ) → section_at now ≡ Some (s, next)
      → HasSection (P name) now → (Q : Type 0) → (P name s → Q)
      → (HasSection (P name) next → Q) → Q
  has_read now s next name read h Q here later = by_before h.before h.earlier where
    by_before : (before : List Section) → AreItems IsSection now before h.from → Q
    by_before [] are =
        let is : IsSection now h.found h.rest =
        subst (λ (b : List ℕ). IsSection b h.found h.rest) are h.is in
        let same = parts s h.found next h.rest
        (sym read ∙ Reads-section_at.complete now h.found h.rest is) in
        here (subst (λ (t : Section). P name t) (sym same.0) h.holds)
    by_before (z ∷ before) are =
        let same = parts s z next are.0
        (sym read ∙ Reads-section_at.complete now z are.0 are.1) in
        later (record {
          before = before;
          from = h.from;
          earlier = subst (λ (b : List ℕ). AreItems IsSection b before h.from) (sym same.1) are.2;
          found = h.found;
          rest = h.rest;
          is = h.is;
          holds = h.holds;
        })

  has_none : (now name : List ℕ) → section_at now ≡ None → HasSection (P name) now → ⊥
  has_none now name none h = by_before h.before h.earlier where
    by_before : (before : List Section) → AreItems IsSection now before h.from → ⊥
    by_before [] are =
        let is : IsSection now h.found h.rest =
        subst (λ (b : List ℕ). IsSection b h.found h.rest) are h.is in
        none_some (h.found, h.rest)
        (sym none ∙ Reads-section_at.complete now h.found h.rest is)
    by_before (z ∷ before) are =
        none_some (z, are.0) (sym none ∙ Reads-section_at.complete now z are.0 are.1)

  module _ (all now : List ℕ) (so_far : SectionsSoFar P all now) where
    pub sections_go_on : (s : Section) (next : List ℕ) → section_at now ≡ Some (s, next)
        → LacksGood (λ name. P name s) → SectionsSoFar P all next
    sections_go_on s next read lacks = record {
      front = so_far.front ++ s ∷ [];
      are = one_more IsSection section_at Reads-section_at all so_far.front now s next so_far.are
          (Reads-section_at.sound now s next read);
      remains = λ name good h.
          has_read now s next name read (so_far.remains name good h) (HasSection (P name) next)
          (λ here. absurd (lacks name (here, good)))
          (λ later. later);
    }

    pub section_names : (s : Section) (next name : List ℕ) → section_at now ≡ Some (s, next)
        → IsGoodOf (λ m. P m s) name → IsGoodOf (HasIn P all) name
    section_names s next name read h = (
      record {
        before = so_far.front;
        from = now;
        earlier = so_far.are;
        found = s;
        rest = next;
        is = Reads-section_at.sound now s next read;
        holds = h.0;
      },
      h.1,
    )

    pub no_section_names : section_at now ≡ None → LacksGood (HasIn P all)
    no_section_names none name h =
        has_none now name none (so_far.remains name h.1 h.0)

-- ---- the name of a section

module _ (id : ℕ) (body : Part) where
  pub no_name : name_at body.bytes.now ≡ None → (bytes : List ℕ)
      → IsNameSection (section_with id body) bytes → ⊥
  no_name none bytes h =
      none_some (codes "name", bytes)
      (sym none ∙ Reads-name_at.complete body.bytes.now (codes "name") bytes h.1)

  module _ (name rest : List ℕ) (read : name_at body.bytes.now ≡ Some (name, rest)) where
    pub is_names : (part : Part) → id ≡ 0 → part.bytes.now ≡ rest → name ≡ codes "name"
        → IsNameSection (section_with id body) part.bytes.now
    is_names part custom left named = (
      custom,
      subst (λ (b : List ℕ). IsName body.bytes.now (codes "name") b) (sym left)
          (subst (λ (n : List ℕ). IsName body.bytes.now n rest) named
          (Reads-name_at.sound body.bytes.now name rest read)),
    )

    pub other_name : (name ≡ codes "name" → ⊥) → (bytes : List ℕ)
        → IsNameSection (section_with id body) bytes → ⊥
    other_name other bytes h =
        other (parts name (codes "name") rest bytes
        (sym read ∙ Reads-name_at.complete body.bytes.now (codes "name") bytes h.1)).0

module _ (function : ℕ) (s : Section) (known : List ℕ) (is : IsNameSection s known) where
  pub in_section : (name : List ℕ) → IsGoodOf (InSubsections function known) name
      → IsGoodOf (InSection function s) name
  in_section name h = ((known, is, h.0), h.1)

  pub not_in_section : LacksGood (InSubsections function known) → LacksGood (InSection function s)
  not_in_section lacks name h =
      let same = parts (codes "name") (codes "name") h.0.0 known
      (sym (Reads-name_at.complete s.body (codes "name") h.0.0 h.0.1.1)
      ∙ Reads-name_at.complete s.body (codes "name") known is.1) in
      lacks name (
        subst (λ (b : List ℕ). InSubsections function b name) same.1 h.0.2,
        h.1,
      )

pub not_named : (function : ℕ) (s : Section) → ((bytes : List ℕ) → IsNameSection s bytes → ⊥)
    → LacksGood (InSection function s)
not_named function s none name h = none h.0.0 h.0.1

-- ---- a module

module _ (bytes : List ℕ) (function : ℕ) where
  -- what a claim says of the bytes behind the header
  behind_header : (after name : List ℕ) → fixed_at preamble bytes ≡ Some (tt, after)
      → ModuleNames bytes function name → HasSection (SectionNames function name) after
  behind_header after name header h =
      let again : fixed_at preamble bytes ≡ Some (tt, h.0) =
      subst (λ (b : List ℕ). fixed_at preamble b ≡ Some (tt, h.0)) (sym h.1)
      (fixed_complete preamble h.0) in
      let same = parts tt tt h.0 after (sym again ∙ header) in
      subst (λ (b : List ℕ). HasSection (SectionNames function name) b) same.1 h.2

  pub lacks_header : fixed_at preamble bytes ≡ None → LacksGood (ModuleNames bytes function)
  lacks_header none name h =
      none_some (tt, h.0.0)
      (sym none ∙ subst (λ (b : List ℕ). fixed_at preamble b ≡ Some (tt, h.0.0)) (sym h.0.1)
      (fixed_complete preamble h.0.0))

  module _ (after : List ℕ) (header : fixed_at preamble bytes ≡ Some (tt, after)) where
    pub module_names : (name : List ℕ) → IsGoodOf (HasIn (SectionNames function) after) name
        → IsGoodOf (ModuleNames bytes function) name
    module_names name h =
        ((after, fixed_sound preamble bytes tt after header, h.0), h.1)

    pub module_lacks : LacksGood (HasIn (SectionNames function) after)
        → LacksGood (ModuleNames bytes function)
    module_lacks lacks name h = lacks name (behind_header after name header h.0, h.1)
