-- An SRVName, put in its four parts.
use Prim.Native.Nat.{ℕ, ◌+◌}
use mathlib.Core.Path.{◌≡◌, sym, subst, ◌∙◌}
use mathlib.Core.List.{List, ◌++◌}
use lib.ListN.{length, length-append}
use Rattle.rules.specs.Der.{element}
use Rattle.rules.specs.San.{other, srv_oid, tag_of, content_of, write_name}
use Rattle.output.specs.Output.{Fits, Put, start, element_size}
use Rattle.output.proofs.Laws.{Left, left_begin, left_first, left_next, element_is, element_length}
use Rattle.san_writer.specs.Measuring.{oid_long}

-- an SRVName, in four parts
module _ (t : List ℕ) (n w : ℕ) (n_is : n ≡ element_size (length t)) (w_is : w ≡ element_size n) where
  abbrev srv_value : List ℕ
  srv_value = start 0xA0 n ++ element 0x16 t

  abbrev srv_content : List ℕ
  srv_content = element 0x06 srv_oid ++ srv_value

  value_is : element 0xA0 (element 0x16 t) ≡ srv_value
  value_is = element_is 0xA0 (element 0x16 t) n (n_is ∙ sym (element_length 0x16 t))

  content_long : 10 + w ≡ length srv_content
  content_long = rw (length-append, oid_long, ← value_is, element_length, element_length, ← n_is, ← w_is)

  srv_is : write_name (other srv_oid 0x16 t) ≡ start 0xA0 (10 + w) ++ srv_content
  unfolding write_name tag_of content_of
  srv_is = rw value_is (element_is 0xA0 srv_content (10 + w) content_long)

  module _ (b : List ℕ) (at : ℕ) (fits : Fits b at (write_name (other srv_oid 0x16 t))) where
    srv_begin : Left b at (write_name (other srv_oid 0x16 t)) b at (start 0xA0 (10 + w) ++ srv_content)
    srv_begin =
        subst (Left b at (write_name (other srv_oid 0x16 t)) b at) srv_is (left_begin b at (write_name (other srv_oid 0x16 t)) fits)

    pub fits_wrapper : Fits b at (start 0xA0 (10 + w))
    fits_wrapper = left_first _ _ _ _ _ _ _ srv_begin

    module _ (b₁ : List ℕ) (at₁ : ℕ) (put₁ : Put b at (start 0xA0 (10 + w)) b₁ at₁) where
      content_left : Left b at (write_name (other srv_oid 0x16 t)) b₁ at₁ srv_content
      content_left = left_next _ _ _ _ _ _ _ srv_begin b₁ at₁ put₁

      pub fits_oid : Fits b₁ at₁ (element 0x06 srv_oid)
      fits_oid = left_first _ _ _ _ _ _ _ content_left

      module _ (b₂ : List ℕ) (at₂ : ℕ) (put₂ : Put b₁ at₁ (element 0x06 srv_oid) b₂ at₂) where
        value_left : Left b at (write_name (other srv_oid 0x16 t)) b₂ at₂ srv_value
        value_left = left_next _ _ _ _ _ _ _ content_left b₂ at₂ put₂

        pub fits_value : Fits b₂ at₂ (start 0xA0 n)
        fits_value = left_first _ _ _ _ _ _ _ value_left

        module _ (b₃ : List ℕ) (at₃ : ℕ) (put₃ : Put b₂ at₂ (start 0xA0 n) b₃ at₃) where
          text_left : Left b at (write_name (other srv_oid 0x16 t)) b₃ at₃ (element 0x16 t)
          text_left = left_next _ _ _ _ _ _ _ value_left b₃ at₃ put₃

          pub fits_text : Fits b₃ at₃ (element 0x16 t)
          fits_text = text_left.fits

          pub srv_put : (b₄ : List ℕ) (at₄ : ℕ) → Put b₃ at₃ (element 0x16 t) b₄ at₄ → Put b at (write_name (other srv_oid 0x16 t)) b₄ at₄
          srv_put = text_left.leads
