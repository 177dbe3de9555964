mod Fitting
mod Lists
mod Members
mod Whole
