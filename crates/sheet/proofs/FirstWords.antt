-- The kind of line that a word begins: each way out of the code is one law.
use mathlib.Core.Path.{◌≡◌, refl}
use mathlib.Core.Bool.{Bool, true, false, ◌||◌}
use mathlib.Core.List.{List, [], ◌∷◌}
use Prim.Native.Nat.{ℕ}
use Rattle.numbers.specs.Numbers.{tab}
use Rattle.ascii.specs.Text.{ascii, same_text}
use Rattle.sheet_words.specs.Names.{same_small}
use Rattle.sheet.specs.Sheet.{kinds, place_among, kind_of, is_alike}

or-none : (b : Bool) → b ≡ (b || false)
or-none true = refl
or-none false = refl

-- ---- its number

module _ (w : List ℕ) (a0 : Bool) (A0 : a0 ≡ same_text w (109 ∷ 101 ∷ 116 ∷ 101 ∷ 114 ∷ [])) where
  pub kind_0 : a0 ≡ true → 0 ≡ kind_of w
  unfolding kind_of place_among ascii tab
  kind_0 h = rw (← A0, h)

  module _ (f0 : a0 ≡ false) (a1 : Bool) (A1 : a1 ≡ same_text w (108 ∷ 105 ∷ 110 ∷ 101 ∷ [])) where
    pub kind_1 : a1 ≡ true → 1 ≡ kind_of w
    unfolding kind_of place_among ascii tab
    kind_1 h = rw (← A0, f0, ← A1, h)

    module _ (f1 : a1 ≡ false) (a2 : Bool) (A2 : a2 ≡ same_text w (115 ∷ 116 ∷ 111 ∷ 99 ∷ 107 ∷ [])) where
      pub kind_2 : a2 ≡ true → 2 ≡ kind_of w
      unfolding kind_of place_among ascii tab
      kind_2 h = rw (← A0, f0, ← A1, f1, ← A2, h)

      module _ (f2 : a2 ≡ false) (a3 : Bool) (A3 : a3 ≡ same_text w (98 ∷ 97 ∷ 108 ∷ 97 ∷ 110 ∷ 99 ∷ 101 ∷ [])) where
        pub kind_3 : a3 ≡ true → 3 ≡ kind_of w
        unfolding kind_of place_among ascii tab
        kind_3 h = rw (← A0, f0, ← A1, f1, ← A2, f2, ← A3, h)

        module _ (f3 : a3 ≡ false) (a4 : Bool) (A4 : a4 ≡ same_text w (102 ∷ 108 ∷ 111 ∷ 111 ∷ 114 ∷ [])) where
          pub kind-4 : a4 ≡ true → 4 ≡ kind_of w
          unfolding kind_of place_among ascii tab
          kind-4 h = rw (← A0, f0, ← A1, f1, ← A2, f2, ← A3, f3, ← A4, h)

          module _ (f4 : a4 ≡ false) (a5 : Bool) (A5 : a5 ≡ same_text w (99 ∷ 101 ∷ 105 ∷ 108 ∷ 105 ∷ 110 ∷ 103 ∷ [])) where
            pub kind-5 : a5 ≡ true → 5 ≡ kind_of w
            unfolding kind_of place_among ascii tab
            kind-5 h = rw (← A0, f0, ← A1, f1, ← A2, f2, ← A3, f3, ← A4, f4, ← A5, h)

            module _ (f5 : a5 ≡ false) (a6 : Bool) (A6 : a6 ≡ same_text w (116 ∷ 111 ∷ 108 ∷ 101 ∷ 114 ∷ 97 ∷ 110 ∷ 99 ∷ 101 ∷ [])) where
              pub kind-6 : a6 ≡ true → 6 ≡ kind_of w
              unfolding kind_of place_among ascii tab
              kind-6 h = rw (← A0, f0, ← A1, f1, ← A2, f2, ← A3, f3, ← A4, f4, ← A5, f5, ← A6, h)

              module _ (f6 : a6 ≡ false) (a7 : Bool) (A7 : a7 ≡ same_text w (116 ∷ 105 ∷ 116 ∷ 108 ∷ 101 ∷ [])) where
                pub kind-7 : a7 ≡ true → 7 ≡ kind_of w
                unfolding kind_of place_among ascii tab
                kind-7 h = rw (← A0, f0, ← A1, f1, ← A2, f2, ← A3, f3, ← A4, f4, ← A5, f5, ← A6, f6, ← A7, h)

                module _ (f7 : a7 ≡ false) (a8 : Bool) (A8 : a8 ≡ same_text w (100 ∷ 111 ∷ 117 ∷ 98 ∷ 116 ∷ [])) where
                  pub kind-8 : a8 ≡ true → 8 ≡ kind_of w
                  unfolding kind_of place_among ascii tab
                  kind-8 h = rw (← A0, f0, ← A1, f1, ← A2, f2, ← A3, f3, ← A4, f4, ← A5, f5, ← A6, f6, ← A7, f7, ← A8, h)

                  pub kind-none : a8 ≡ false → 9 ≡ kind_of w
                  unfolding kind_of place_among ascii tab
                  kind-none h = rw (← A0, f0, ← A1, f1, ← A2, f2, ← A3, f3, ← A4, f4, ← A5, f5, ← A6, f6, ← A7, f7, ← A8, h)

-- ---- but for capitals

module _ (w : List ℕ) (a0 : Bool) (A0 : a0 ≡ same_small w (109 ∷ 101 ∷ 116 ∷ 101 ∷ 114 ∷ [])) where
  pub alike-0 : a0 ≡ true → true ≡ is_alike w kinds
  unfolding is_alike ascii tab
  alike-0 h = rw (← A0, h)

  module _ (f0 : a0 ≡ false) (a1 : Bool) (A1 : a1 ≡ same_small w (108 ∷ 105 ∷ 110 ∷ 101 ∷ [])) where
    pub alike-1 : a1 ≡ true → true ≡ is_alike w kinds
    unfolding is_alike ascii tab
    alike-1 h = rw (← A0, f0, ← A1, h)

    module _ (f1 : a1 ≡ false) (a2 : Bool) (A2 : a2 ≡ same_small w (115 ∷ 116 ∷ 111 ∷ 99 ∷ 107 ∷ [])) where
      pub alike-2 : a2 ≡ true → true ≡ is_alike w kinds
      unfolding is_alike ascii tab
      alike-2 h = rw (← A0, f0, ← A1, f1, ← A2, h)

      module _ (f2 : a2 ≡ false) (a3 : Bool) (A3 : a3 ≡ same_small w (98 ∷ 97 ∷ 108 ∷ 97 ∷ 110 ∷ 99 ∷ 101 ∷ [])) where
        pub alike-3 : a3 ≡ true → true ≡ is_alike w kinds
        unfolding is_alike ascii tab
        alike-3 h = rw (← A0, f0, ← A1, f1, ← A2, f2, ← A3, h)

        module _ (f3 : a3 ≡ false) (a4 : Bool) (A4 : a4 ≡ same_small w (102 ∷ 108 ∷ 111 ∷ 111 ∷ 114 ∷ [])) where
          pub alike-4 : a4 ≡ true → true ≡ is_alike w kinds
          unfolding is_alike ascii tab
          alike-4 h = rw (← A0, f0, ← A1, f1, ← A2, f2, ← A3, f3, ← A4, h)

          module _ (f4 : a4 ≡ false) (a5 : Bool) (A5 : a5 ≡ same_small w (99 ∷ 101 ∷ 105 ∷ 108 ∷ 105 ∷ 110 ∷ 103 ∷ [])) where
            pub alike-5 : a5 ≡ true → true ≡ is_alike w kinds
            unfolding is_alike ascii tab
            alike-5 h = rw (← A0, f0, ← A1, f1, ← A2, f2, ← A3, f3, ← A4, f4, ← A5, h)

            module _ (f5 : a5 ≡ false) (a6 : Bool) (A6 : a6 ≡ same_small w (116 ∷ 111 ∷ 108 ∷ 101 ∷ 114 ∷ 97 ∷ 110 ∷ 99 ∷ 101 ∷ [])) where
              pub alike-6 : a6 ≡ true → true ≡ is_alike w kinds
              unfolding is_alike ascii tab
              alike-6 h = rw (← A0, f0, ← A1, f1, ← A2, f2, ← A3, f3, ← A4, f4, ← A5, f5, ← A6, h)

              module _ (f6 : a6 ≡ false) (a7 : Bool) (A7 : a7 ≡ same_small w (116 ∷ 105 ∷ 116 ∷ 108 ∷ 101 ∷ [])) where
                pub alike-7 : a7 ≡ true → true ≡ is_alike w kinds
                unfolding is_alike ascii tab
                alike-7 h = rw (← A0, f0, ← A1, f1, ← A2, f2, ← A3, f3, ← A4, f4, ← A5, f5, ← A6, f6, ← A7, h)

                module _ (f7 : a7 ≡ false) (a8 : Bool) (A8 : a8 ≡ same_small w (100 ∷ 111 ∷ 117 ∷ 98 ∷ 116 ∷ [])) where
                  pub alike-last : a8 ≡ is_alike w kinds
                  unfolding is_alike ascii tab
                  alike-last = rw (← A0, f0, ← A1, f1, ← A2, f2, ← A3, f3, ← A4, f4, ← A5, f5, ← A6, f6, ← A7, f7, ← A8) (or-none a8)
