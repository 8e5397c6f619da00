-- The numbers of the reasons. Document 01, 'Numbers given back'; document 02.
use Rattle.std.specs.Prelude.{ℕ}
use Rattle.verdict.specs.declared.Reason.{Reason}
use Rattle.verdict.specs.declared.Reason.TheVariants.{BytesMissing, BadSize, KindTwice, BoxMissing, NotAlone, BadText, BadRange, BadValue, PastLimit, BadTime, BadOrder, IdTwice, IdAfterGap, OtherTexts, NoRoom, Differs, NoId, StyleBlock, Malformed, BadSetting, OutsideProfile}

abbrev pub number_of : Reason → ℕ
number_of BytesMissing = 1
number_of BadSize = 2
number_of KindTwice = 3
number_of BoxMissing = 4
number_of NotAlone = 5
number_of BadText = 6
number_of BadRange = 7
number_of BadValue = 8
number_of PastLimit = 9
number_of BadTime = 10
number_of BadOrder = 11
number_of IdTwice = 12
number_of IdAfterGap = 13
number_of OtherTexts = 14
number_of NoRoom = 15
number_of Differs = 16
number_of NoId = 17
number_of StyleBlock = 18
number_of Malformed = 19
number_of BadSetting = 20
number_of OutsideProfile = 21
