mod AddLemmas
mod Fronts
mod ItemLemmas
mod MemberLemmas
mod Sames
mod ToldLemmas
mod Zips
