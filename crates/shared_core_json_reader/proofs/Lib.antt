mod ShortRecords
mod Varints
pub mod Contents
pub mod Numbers
pub mod Texts
pub mod FormatRows
pub mod NamesApart
pub mod Givens
pub mod Placed
pub mod EnumLists
pub mod Levels
pub mod FirstErrors
pub mod Agreeing
pub mod Whole
pub mod Fitting
pub mod ScalarsBack
pub mod ShortNumbers
pub mod TreeBack
pub mod LawOfJson
pub mod ReadAgain
pub mod Printed
pub mod PrintedValues
pub mod WellFormedBack
