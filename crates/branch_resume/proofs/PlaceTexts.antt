-- A text is that of at most one place.
use Rattle.std.proofs.Common.{◌≡◌, sym, ap, ◌∙◌, ℕ, ◌<◌, ◌≤◌, List, decimal, Some, None, arith}
use Rattle.net_values.specs.declared.limits.TheConstants.{MAX_PLACES}
use Rattle.certificates.specs.Lines.{place_in}
use Rattle.certificates.proofs.DecimalTexts.{number_found, number_again, decimal_one}
use Rattle.branch_resume.specs.Lines.{IsPlaceText, NoPlaceText}

module _ (least limit : ℕ) (text : List ℕ) where
  pub no_place_text : limit ≤ MAX_PLACES → place_in text ≡ None → NoPlaceText least limit text
  no_place_text fits none p is =
      let high : p < limit = is.high in
      let found : place_in text ≡ Some p = ap place_in is.spelled ∙ number_again 0 MAX_PLACES p (omega (arith, high, fits)) (omega arith) (omega (arith, high, fits)) in
      absurd (let both : None ≡ Some p = sym none ∙ found in cc)

  pub place_is : (q p : ℕ) → limit ≤ MAX_PLACES → place_in text ≡ Some q → IsPlaceText least limit text p → p ≡ q
  place_is q p fits found is =
      let high : p < limit = is.high in
      let h = number_found 0 MAX_PLACES text q found in
      let low : q < MAX_PLACES = h.below in
      decimal_one p q (omega (arith, high, fits)) (omega (arith, low)) (sym is.spelled ∙ h.text_is)

pub place_text : (text : List ℕ) (p : ℕ) → place_in text ≡ Some p → text ≡ decimal p
place_text text p found = (number_found 0 MAX_PLACES text p found).text_is
